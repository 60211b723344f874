-- Lines with options, computed: which command the words name.
use Rattle.std.proofs.Common.{◌≡◌, true, false, refl, [], ◌∷◌, Some, None, codes}
use Rattle.clap.proofs.OnLiterals.{clap_on_literals}
use Rattle.ssim_command_line.specs.Line.{Board, Calendar, ChoiceTexts, Diff, Findings, Listing, Receive}
use Rattle.ssim_command_line.specs.Line.{Select, Start, days_in, diff_form_with}
use Rattle.ssim_command_line.specs.declared.board_form.Direction.TheVariants.{Arrivals}
use Rattle.ssim_command_line.specs.Usage.{Names}

abbrev all_dates : ChoiceTexts
all_dates = record { from = None; to = None; stations = []; aircraft = [] }

-- `list --csv summer.ssim`
as_csv : Names (codes "ssimdesk" ∷ codes "list" ∷ codes "--csv" ∷ codes "summer.ssim" ∷ [])
    (Listing (record { csv = true; dates = false }) all_dates (codes "summer.ssim") [])
unfolding clap_on_literals
as_csv = record { right = refl; name = codes "list"; rows = _; entered = refl; read = refl }

-- `list summer.ssim Z7341 --dates`: the option last
by_date : Names (codes "ssimdesk" ∷ codes "list" ∷ codes "summer.ssim" ∷ codes "Z7341" ∷ codes "--dates" ∷ [])
    (Listing (record { csv = false; dates = true }) all_dates (codes "summer.ssim")
    (codes "Z7341" ∷ []))
unfolding clap_on_literals
by_date = record { right = refl; name = codes "list"; rows = _; entered = refl; read = refl }

-- `start season.ssim --notes stations.txt fdh.desk`
with_notes : Names (codes "ssimdesk" ∷ codes "start" ∷ codes "season.ssim" ∷ codes "--notes"
    ∷ codes "stations.txt" ∷ codes "fdh.desk" ∷ [])
    (Start true (codes "season.ssim") (codes "stations.txt") (codes "fdh.desk"))
unfolding clap_on_literals
with_notes = record { right = refl; name = codes "start"; rows = _; entered = refl; read = refl }

-- `receive --refused back fdh.desk fdh.desk mail`
with_refused : Names (codes "ssimdesk" ∷ codes "receive" ∷ codes "--refused" ∷ codes "back" ∷ codes "fdh.desk" ∷ codes "fdh.desk" ∷ codes "mail" ∷ [])
    (Receive (Some (codes "back")) (record { csv = false; status = false; effects = false }) (codes "fdh.desk") (codes "fdh.desk")
    (codes "mail" ∷ []))
unfolding clap_on_literals
with_refused = record { right = refl; name = codes "receive"; rows = _; entered = refl; read = refl }

-- `receive --csv fdh.desk fdh.desk mail --status`: rows, and a status
rows_of_mail : Names (codes "ssimdesk" ∷ codes "receive" ∷ codes "--csv" ∷ codes "fdh.desk" ∷ codes "fdh.desk"
    ∷ codes "mail" ∷ codes "--status" ∷ [])
    (Receive None (record { csv = true; status = true; effects = false }) (codes "fdh.desk") (codes "fdh.desk")
    (codes "mail" ∷ []))
unfolding clap_on_literals
rows_of_mail = record { right = refl; name = codes "receive"; rows = _; entered = refl; read = refl }

-- `select --station KEF fdh.desk --station HAM`: an option twice
two_stations : Names (codes "ssimdesk" ∷ codes "select" ∷ codes "--station" ∷ codes "KEF"
    ∷ codes "fdh.desk" ∷ codes "--station" ∷ codes "HAM" ∷ [])
    (Select (record {
      from = None;
      to = None;
      stations = codes "KEF" ∷ codes "HAM" ∷ [];
      aircraft = [];
    })
    (codes "fdh.desk") [])
unfolding clap_on_literals
two_stations = record { right = refl; name = codes "select"; rows = _; entered = refl; read = refl }

-- `calendar --from 1jul27 fdh.desk 341 342`: two flights from a date on
two_flights : Names (codes "ssimdesk" ∷ codes "calendar" ∷ codes "--from" ∷ codes "1jul27"
    ∷ codes "fdh.desk" ∷ codes "341" ∷ codes "342" ∷ [])
    (Calendar (record {
      from = Some (codes "1jul27");
      to = None;
      stations = [];
      aircraft = [];
    })
    (codes "fdh.desk") (codes "341" ∷ codes "342" ∷ []))
unfolding clap_on_literals
two_flights = record { right = refl; name = codes "calendar"; rows = _; entered = refl; read = refl }

-- `diff --station KEF season.ssim fdh.desk 341 --summary`: a flight between two timetables
one_flight : Names (codes "ssimdesk" ∷ codes "diff" ∷ codes "--station" ∷ codes "KEF"
    ∷ codes "season.ssim" ∷ codes "fdh.desk" ∷ codes "341" ∷ codes "--summary" ∷ [])
    (Diff (record { csv = false; summary = true; status = false }) (record {
      from = None;
      to = None;
      stations = codes "KEF" ∷ [];
      aircraft = [];
    })
    (codes "season.ssim") (codes "fdh.desk") (codes "341" ∷ []))
unfolding clap_on_literals
one_flight = record { right = refl; name = codes "diff"; rows = _; entered = refl; read = refl }

-- `diff season.ssim fdh.desk --csv --status`: rows, and a status
rows_of_all : Names (codes "ssimdesk" ∷ codes "diff" ∷ codes "season.ssim" ∷ codes "fdh.desk"
    ∷ codes "--csv" ∷ codes "--status" ∷ [])
    (Diff (record { csv = true; summary = false; status = true }) all_dates (codes "season.ssim")
    (codes "fdh.desk") [])
unfolding clap_on_literals
rows_of_all = record { right = refl; name = codes "diff"; rows = _; entered = refl; read = refl }

-- rows of changes and how many there are of each kind are not printed together
no_form : diff_form_with true true false ≡ None
no_form = refl

-- `findings --from 20jul27 fdh.desk 341`: a span without an end
from_a_date : Names (codes "ssimdesk" ∷ codes "findings" ∷ codes "--from" ∷ codes "20jul27"
    ∷ codes "fdh.desk" ∷ codes "341" ∷ [])
    (Findings (record { csv = false; not_acted = false })
    (record { from = Some (codes "20jul27"); to = None }) (codes "fdh.desk") (codes "341" ∷ []))
unfolding clap_on_literals
from_a_date = record { right = refl; name = codes "findings"; rows = _; entered = refl; read = refl }

-- `board --days 2 --arrivals fdh.desk dxb 15jun27`: the arrivals of two dates
two_dates : Names (codes "ssimdesk" ∷ codes "board" ∷ codes "--days" ∷ codes "2" ∷ codes "--arrivals"
    ∷ codes "fdh.desk" ∷ codes "dxb" ∷ codes "15jun27" ∷ [])
    (Board (record { csv = false; days = Some 2; only = Some Arrivals }) (codes "fdh.desk") (codes "dxb")
    (codes "15jun27"))
unfolding clap_on_literals
two_dates = record { right = refl; name = codes "board"; rows = _; entered = refl; read = refl }

-- `board fdh.desk dxb 15jun27`: one date
one_date : Names (codes "ssimdesk" ∷ codes "board" ∷ codes "fdh.desk" ∷ codes "dxb" ∷ codes "15jun27" ∷ [])
    (Board (record { csv = false; days = None; only = None }) (codes "fdh.desk") (codes "dxb")
    (codes "15jun27"))
unfolding clap_on_literals
one_date = record { right = refl; name = codes "board"; rows = _; entered = refl; read = refl }

-- a number of dates has one to three digits, and is from 1 to 366
numbers_of_days : days_in (codes "1") ∷ days_in (codes "007") ∷ days_in (codes "366") ∷ days_in (codes "0")
    ∷ days_in (codes "367") ∷ days_in (codes "0366") ∷ days_in (codes "+7") ∷ days_in [] ∷ []
    ≡ Some 1 ∷ Some 7 ∷ Some 366 ∷ None ∷ None ∷ None ∷ None ∷ None ∷ []
numbers_of_days = refl
