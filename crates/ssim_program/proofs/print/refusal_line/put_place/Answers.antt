-- The place is that of the arm.
use Rattle.ssim_program.proofs.print.refusal_line.put_place.Goals as goal

pub returns-in-Flight : goal.returns-in-Flight
returns-in-Flight g c = rw c.in-Flight.is c.put_flight.ensures

pub returns-in-Message : goal.returns-in-Message
returns-in-Message g c = rw c.in-Message.is c.put_message.ensures

pub returns-in-Column : goal.returns-in-Column
returns-in-Column g c = rw c.in-Column.is c.put_column.ensures
