-- The report that data which pass the checks are read as, and its targets.
--   report_with f flag e   the report with the basic fields f, the engineering flag and the engineering part e
--   report_by f t b        the report of the basic fields f, the type t and the bytes b after the basic ones
--   report_of s            the report that the data s are read as, if they pass the checks
--   no_report              every field 0
--   target_if there d e    the target at distance d with energy e, or none
--   moving_target r, stationary_target r   the targets of the report r, each if its state has it
use Rattle.std.specs.Prelude.{List, Bool, false, cond, ℕ, Some, None}
use Rattle.std.specs.declared.option.Option.{Option}
use Rattle.target_state.specs.State.{state_of, moving_of, stationary_of}
use Rattle.engineering.specs.Block.{engineering_if, no_engineering}
use Rattle.target_state.specs.declared.TargetState.TheVariants as State
use Rattle.report.specs.declared.Target.{Target}
use Rattle.report.specs.Basic.{basic_of}
use Rattle.report.specs.declared.basic.Basic.{Basic}
use Rattle.report.specs.Layout.{data_type_in, body, block, is_engineering}
use Rattle.engineering.specs.declared.Engineering.{Engineering}
use Rattle.report.specs.declared.Report.{Report}

abbrev pub report_with : Basic → Bool → Engineering → Report
report_with f flag e = record {
  state = state_of f.state;
  moving_distance_cm = f.moving_distance_cm;
  moving_energy = f.moving_energy;
  stationary_distance_cm = f.stationary_distance_cm;
  stationary_energy = f.stationary_energy;
  detection_distance_cm = f.detection_distance_cm;
  has_engineering = flag;
  engineering = e;
}

abbrev pub report_by : Basic → ℕ → List ℕ → Report
report_by f t b = report_with f (is_engineering t) (engineering_if (is_engineering t) b)

unfoldable pub report_of : List ℕ → Report
report_of s = report_by (basic_of (body s)) (data_type_in s) (block s)

abbrev pub no_report : Report
no_report = record {
  state = State.None;
  moving_distance_cm = 0;
  moving_energy = 0;
  stationary_distance_cm = 0;
  stationary_energy = 0;
  detection_distance_cm = 0;
  has_engineering = false;
  engineering = no_engineering;
}

abbrev pub target_if : Bool → ℕ → ℕ → Option Target
target_if there d e = cond there (Some (record { distance_cm = d; energy = e })) None

abbrev pub moving_target : Report → Option Target
moving_target r = target_if (moving_of r.state) r.moving_distance_cm r.moving_energy

abbrev pub stationary_target : Report → Option Target
stationary_target r = target_if (stationary_of r.state) r.stationary_distance_cm r.stationary_energy
