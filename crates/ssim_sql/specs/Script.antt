-- The SQL script of a timetable.
use Rattle.std.specs.Prelude.{ℕ, Bool, if◌then◌else◌, List, ◌++◌, codes, length}
use Rattle.std.specs.Prelude.{Option, Some, None}
use Rattle.ssim_records.specs.Carrier.{CarrierFields}
use Rattle.ssim_base.specs.Timetable.{days_of}
use Rattle.ssim_held.specs.Entries.{DeskSeen}
use Rattle.ssim_desk.specs.Desk.{days_of_desk}
use Rattle.ssim_schedule.specs.FlightPieces.{Divided, divided_flights}
use Rattle.ssim_difference.specs.Differences.{Compared, differences}
use Rattle.ssim_sql.specs.ChangeRows.{change_rows}
use Rattle.ssim_sql.specs.DayRows.{day_statement, days_of_script}
use Rattle.ssim_sql.specs.LegRows.{flight_rows, one_row}
use Rattle.ssim_sql.specs.Literal.{quote}
use Rattle.ssim_sql.specs.Messages.{held_statements}
use Rattle.ssim_sql.specs.SegmentRows.{segment_rows}
use Rattle.ssim_sql.specs.Statements.{statements}
use Rattle.ssim_sql.specs.Timetable.{timetable_name, timetable_statement}
use Rattle.ssim_sql.specs.declared.constant.heads.TheConstants.{CHANGE_HEAD, LEG_HEAD}
use Rattle.ssim_sql.specs.declared.constant.heads.TheConstants.{SEGMENT_HEAD}
use Rattle.ssim_sql.specs.declared.constant.tables.TheConstants.{TABLES}
use Rattle.ssim_sql.specs.declared.constant.views.TheConstants.{VIEWS}

-- ---- the beginning

-- deletes the rows of the timetable with this name from a table
abbrev pub delete : List ℕ → List ℕ → List ℕ
delete name table = codes "DELETE FROM " ++ table ++ codes " WHERE timetable = " ++ quote name
    ++ codes ";\n"

-- deletes its rows from all tables that have some, in the order in which they are filled
abbrev pub deletes : List ℕ → List ℕ
deletes name =
    delete name (codes "timetable") ++ delete name (codes "leg") ++ delete name (codes "segment")
    ++ delete name (codes "station_row") ++ delete name (codes "message")
    ++ delete name (codes "sub_message") ++ delete name (codes "change")

-- begins a transaction, makes the tables that are not there (the bytes of schema/tables.sql), and
-- deletes the rows of the timetable
unfoldable pub beginning : List ℕ → List ℕ
beginning name = codes "BEGIN;\n" ++ TABLES.now ++ deletes name

-- ---- the rows of flights

-- the legs of all flights on their periods, and then the segment records of these legs
unfoldable pub flight_statements : List ℕ → CarrierFields → List Divided → List ℕ
flight_statements name r flights =
    statements LEG_HEAD.now (flight_rows one_row name r.time_mode r.airline flights)
    ++ statements SEGMENT_HEAD.now (flight_rows segment_rows name r.time_mode r.airline flights)

-- the legs of the flights that differ from the data set, on the periods on which they do
unfoldable pub change_statements : List ℕ → CarrierFields → List Compared → List ℕ
change_statements name r changes =
    statements CHANGE_HEAD.now (change_rows name r.time_mode r.airline changes)

-- ---- all together

-- the end of the transaction, before which the views are made anew (the bytes of schema/views.sql)
unfoldable pub ending : List ℕ
ending = VIEWS.now ++ codes "COMMIT;\n"

-- how many messages a desk holds; none if it is a data set
abbrev pub message_count : Bool → DeskSeen → Option ℕ
message_count is_desk desk = if is_desk then Some (length desk.held) else None

-- The script of flights with this carrier record, of the messages of a desk, of what these found,
-- and of the flights that they change: within one transaction, all rows of the timetable are deleted
-- and inserted.
unfoldable pub script_of_flights : CarrierFields → Bool → DeskSeen → List Divided
    → List Compared → List ℕ
script_of_flights carrier is_desk desk flights changes =
    let name = timetable_name carrier in
    beginning name ++ day_statement (days_of_script carrier desk.held flights)
    ++ timetable_statement name carrier (message_count is_desk desk)
    ++ flight_statements name carrier flights ++ held_statements name desk
    ++ change_statements name carrier changes ++ ending

-- the flights of a desk that differ from those of its data set, each with the periods on which it
-- does; none if it holds no message, as a data set
abbrev pub changes_of : DeskSeen → List Compared
changes_of desk = differences (days_of desk.base.records) (days_of_desk desk)

-- The script of a desk, or of a data set, with this carrier record: the flights of its timetable
-- that fly on some date, what it holds, and what that changes.
abbrev pub script_of : CarrierFields → Bool → DeskSeen → List ℕ
script_of carrier is_desk desk =
    script_of_flights carrier is_desk desk (divided_flights (days_of_desk desk)) (changes_of desk)
