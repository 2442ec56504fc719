-- Runs in which something happens, so that no claim about the parser is empty: a report and an acknowledgement are
-- delivered, a malformed frame is not, a reset forgets, a module calibrates, counters pass 32 bits, and stop. Only one
-- run with a reset is a row of the document.
--   acknowledged      the published acknowledgement of `EnableConfig`
--   b_in x             B with the state byte x
--   read_in t          what B's data are read as, in the state t: "120 cm at 60, 150 cm at 45, detection 200 cm"
--   report_in t        what B is read as, in the state t
--   b_report           what B is read as: "both targets"
--   engineering_in x   the published engineering report with the state byte x
--   engineering_report_in t   what it is read as, in the state t
--   enabled           what the acknowledgement is read as, its payload at byte 4 of the buffer
--   largest           "the largest 64-bit value", as a number and not by the name `counter_max`
--   counting n        a parser whose four counters hold n
--   each, each_done    calls that end every kind of piece that counts, and what they do
--   runs              the rows
use Rattle.std.specs.Prelude.{List, [], ◌∷◌, ◌++◌, true, false, ℕ, replicate, take, drop, Some}
use Rattle.engineering.specs.Block.{no_engineering}
use Rattle.target_state.specs.declared.TargetState.{TargetState}
use Rattle.target_state.specs.declared.TargetState.TheVariants.{Both, CalibrationRunning, CalibrationDone}
use Rattle.target_state.specs.declared.TargetState.TheVariants.{CalibrationFailed}
use Rattle.report.specs.declared.Report.{Report}
use Rattle.frame.specs.declared.Frame.{Frame}
use Rattle.frame.specs.declared.Frame.TheVariants as Is
use Rattle.engine.specs.Calls.{Call, feed, slice, reset, Did, fed, sliced, cleared}
use Rattle.stream.specs.Deliver.{Answer, nothing}
use Rattle.scan.specs.Scan.{hunting}
use Rattle.parser.specs.Feed.{fresh}
use Rattle.parser.specs.declared.Parser.{Parser}
use Rattle.cases.specs.Row.{Numbers, Run}
use Rattle.cases.specs.Streams.{b, bare, numbers}

abbrev pub acknowledged : List ℕ
acknowledged = 0xFD ∷ 0xFC ∷ 0xFB ∷ 0xFA ∷ 0x08 ∷ 0x00 ∷ 0xFF ∷ 0x01 ∷ 0x00 ∷ 0x00 ∷ 0x01 ∷ 0x00 ∷ 0x40 ∷ 0x00 ∷ 0x04
    ∷ 0x03 ∷ 0x02 ∷ 0x01 ∷ []

abbrev pub b_in : ℕ → List ℕ
b_in x = take 8 b ++ (x ∷ drop 9 b)

abbrev pub read_in : TargetState → Report
read_in t = record {
  state = t;
  moving_distance_cm = 120;
  moving_energy = 60;
  stationary_distance_cm = 150;
  stationary_energy = 45;
  detection_distance_cm = 200;
  has_engineering = false;
  engineering = no_engineering;
}

abbrev pub report_in : TargetState → Frame
report_in t = Is.Report (read_in t)

abbrev pub b_report : Frame
b_report = report_in Both

abbrev pub engineering_in : ℕ → List ℕ
engineering_in x = 0xF4 ∷ 0xF3 ∷ 0xF2 ∷ 0xF1 ∷ 0x23 ∷ 0x00 ∷ 0x01 ∷ 0xAA ∷ x ∷ 0x1E ∷ 0x00 ∷ 0x3C ∷ 0x00 ∷ 0x00 ∷ 0x39
    ∷ 0x00 ∷ 0x00 ∷ 0x08 ∷ 0x08 ∷ 0x3C ∷ 0x22 ∷ 0x05 ∷ 0x03 ∷ 0x03 ∷ 0x04 ∷ 0x03 ∷ 0x06 ∷ 0x05 ∷ 0x00 ∷ 0x00 ∷ 0x39
    ∷ 0x10 ∷ 0x13 ∷ 0x06 ∷ 0x06 ∷ 0x08 ∷ 0x04 ∷ 0x03 ∷ 0x05 ∷ 0x55 ∷ 0x00 ∷ 0xF8 ∷ 0xF7 ∷ 0xF6 ∷ 0xF5 ∷ []

abbrev pub engineering_report_in : TargetState → Frame
engineering_report_in t = Is.Report (record {
  state = t;
  moving_distance_cm = 30;
  moving_energy = 60;
  stationary_distance_cm = 0;
  stationary_energy = 57;
  detection_distance_cm = 0;
  has_engineering = true;
  engineering = record {
    moving_gates = 9;
    stationary_gates = 9;
    moving_energy = 0x3C ∷ 0x22 ∷ 0x05 ∷ 0x03 ∷ 0x03 ∷ 0x04 ∷ 0x03 ∷ 0x06 ∷ 0x05 ∷ [];
    stationary_energy = 0x00 ∷ 0x00 ∷ 0x39 ∷ 0x10 ∷ 0x13 ∷ 0x06 ∷ 0x06 ∷ 0x08 ∷ 0x04 ∷ [];
    extra = 0x03 ∷ 0x05 ∷ replicate 6 0;
    extra_len = 2;
  };
})

abbrev pub enabled : Frame
enabled = Is.Ack (record { word = 0x00FF; ok = true; status = 0; payload = record { start = 4; len = 4 } })

abbrev pub largest : ℕ
largest = 18446744073709551615

abbrev pub counting : ℕ → Parser
counting n = record {
  buf = replicate 64 0;
  scan = hunting;
  stats = record { frames = n; resyncs = n; dropped = n; malformed = n };
}

abbrev each : List Call
each = feed 0x00 ∷ slice (0xF4 ∷ 0x00 ∷ []) ∷ slice b ∷ slice bare ∷ []

abbrev each_done : List (Did Answer)
each_done = fed 0x00 nothing ∷ sliced (0xF4 ∷ 0x00 ∷ []) 2 nothing ∷ sliced b 23 (Some b_report, [])
    ∷ sliced bare 12 nothing ∷ []

abbrev row : Parser → List Call → List (Did Answer) → Numbers → Run
row p cs ds n = record { start = p; calls = cs; history = ds; numbers = n }

abbrev pub runs : List Run
runs =
    -- a report is delivered where its frame ends, inside a slice; the rest of the slice is fed again
    row fresh (slice (0x00 ∷ b ++ (0xF4 ∷ [])) ∷ slice (0xF4 ∷ []) ∷ [])
    (sliced (0x00 ∷ b ++ (0xF4 ∷ [])) 24 (Some b_report, []) ∷ sliced (0xF4 ∷ []) 1 nothing ∷ []) (numbers 1 0 1 0 1)
    -- an acknowledgement is delivered, and its payload is in the buffer
    ∷ row fresh (slice acknowledged ∷ [])
    (sliced acknowledged 18 (Some enabled, 0x01 ∷ 0x00 ∷ 0x40 ∷ 0x00 ∷ []) ∷ []) (numbers 1 0 0 0 0)
    -- a whole frame that does not decode ends the slice too, and is answered "no frame"
    ∷ row fresh (slice (bare ++ b) ∷ []) (sliced (bare ++ b) 12 nothing ∷ []) (numbers 0 0 0 1 0)
    -- "F4 F3, then reset: all counters 0"
    ∷ row fresh (feed 0xF4 ∷ feed 0xF3 ∷ reset ∷ [])
    (fed 0xF4 nothing ∷ fed 0xF3 nothing ∷ cleared ∷ []) (numbers 0 0 0 0 0)
    -- "`reset` forgets an unfinished frame and keeps the counters": F3 then is a stray byte
    ∷ row fresh (feed 0x00 ∷ feed 0xF4 ∷ reset ∷ feed 0xF3 ∷ [])
    (fed 0x00 nothing ∷ fed 0xF4 nothing ∷ cleared ∷ fed 0xF3 nothing ∷ []) (numbers 0 0 2 0 0)
    -- request 3: "state 04 to background calibration running, 05 to done, 06 to failed", "bytes 07 and above
    -- keep the old rule"
    ∷ row fresh (slice (b_in 0x04) ∷ slice (b_in 0x05) ∷ slice (b_in 0x06) ∷ slice (b_in 0x07) ∷ [])
    (sliced (b_in 0x04) 23 (Some (report_in CalibrationRunning), [])
    ∷ sliced (b_in 0x05) 23 (Some (report_in CalibrationDone), [])
    ∷ sliced (b_in 0x06) 23 (Some (report_in CalibrationFailed), [])
    ∷ sliced (b_in 0x07) 23 (Some (report_in Both), []) ∷ [])
    (numbers 4 0 0 0 0)
    -- the engineering block of such a report is read as in any other
    ∷ row fresh (slice (engineering_in 0x05) ∷ [])
    (sliced (engineering_in 0x05) 45 (Some (engineering_report_in CalibrationDone), []) ∷ []) (numbers 1 0 0 0 0)
    -- a stray byte, a broken start and the stray byte that broke it, a frame that decodes and one that does not: each
    -- counter goes on past 2 to the power of 32, and stays at its largest number
    ∷ row (counting 4294967296) each each_done (numbers 4294967297 4294967297 4294967299 4294967297 0)
    ∷ row (counting largest) each each_done (numbers largest largest largest largest 0)
    ∷ []
