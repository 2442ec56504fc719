-- Sessions: rows for the sentences of request 2, and for the commands of document 01's point 6 one by one. Most rows
-- are one event: what is answered, and where it leads.
--   ack w on       the module's acknowledgement of the word w, with `ok` on or off
--   report         a report that comes between
--   mixed          a report made by hand, with the acknowledgement of `EnableConfig` beside it
--   unanswered     the answer of a feed by which no frame ended
--   number_only k   "returned with the answer's other fields 0"
--   wrote n        nothing is refused, and n bytes are written
--   restart_frame, reset_frame, mac_frame   the frames of `Restart`, `FactoryReset` and `ReadMac`
--   Named          a command, and its word
--   others         the commands but `EnableConfig`, `EndConfig` and `Restart`
--   plain          these and `Restart`
--   talks          the rows
use Rattle.std.specs.Prelude.{List, [], ◌∷◌, ◌++◌, map, Bool, true, false, cond, ℕ, length, Some, None}
use Rattle.refusal.specs.Refusal.{Returned}
use Rattle.writer.specs.Written.{written}
use Rattle.frame.specs.declared.Frame.TheVariants as Is
use Rattle.command.specs.declared.setting.Baud.TheVariants.{B115200}
use Rattle.command.specs.declared.setting.Gate.TheVariants.{All}
use Rattle.command.specs.Command.{command_frame}
use Rattle.command.specs.declared.Command.{Command}
use Rattle.command.specs.declared.Command.TheVariants.{EnableConfig, EndConfig, SetMaxGates, ReadParameters}
use Rattle.command.specs.declared.Command.TheVariants.{EngineeringMode, SetSensitivity, ReadFirmware, SetBaud}
use Rattle.command.specs.declared.Command.TheVariants.{FactoryReset, Restart, Bluetooth, ReadMac}
use Rattle.session.specs.declared.Session.{Session}
use Rattle.session.specs.declared.Session.TheVariants.{Closed, Opening, Open, Waiting, Closing}
use Rattle.session.specs.declared.ReceiveResult.TheVariants.{Passed, Ended}
use Rattle.session.specs.Machine.{Event, send, frame, give_up, Response, sent, received, gave_up}
use Rattle.cases.specs.Row.{Talk}
use Rattle.session.specs.Parts.{frame_in}
use Rattle.wire.specs.declared.Kind.TheVariants as Family
use Rattle.target_state.specs.declared.TargetState.TheVariants.{Both}
use Rattle.cases.specs.Runs.{b_report, read_in}
use Rattle.cases.specs.Commands.{buffer, enable_frame, end_frame}

abbrev ack : ℕ → Bool → Event
ack w on =
    frame (Some (Is.Ack (record { word = w; ok = on; status = cond on 0 1; payload = record { start = 4; len = 0 } })))

abbrev report : Event
report = frame (Some b_report)

abbrev mixed : Event
mixed = frame (frame_in (record {
  kind = Some Family.Report;
  report = read_in Both;
  ack = record { word = 0x00FF; ok = true; status = 0; payload = record { start = 4; len = 0 } };
}))

abbrev unanswered : Event
unanswered = frame None

abbrev number_only : ℕ → Returned ℕ
number_only k = record { number = k; needed = 0; value = 0 }

abbrev wrote : ℕ → Returned ℕ
wrote n = record { number = 0; needed = 0; value = n }

abbrev restart_frame : List ℕ
restart_frame = 0xFD ∷ 0xFC ∷ 0xFB ∷ 0xFA ∷ 0x02 ∷ 0x00 ∷ 0xA3 ∷ 0x00 ∷ 0x04 ∷ 0x03 ∷ 0x02 ∷ 0x01 ∷ []

abbrev reset_frame : List ℕ
reset_frame = 0xFD ∷ 0xFC ∷ 0xFB ∷ 0xFA ∷ 0x02 ∷ 0x00 ∷ 0xA2 ∷ 0x00 ∷ 0x04 ∷ 0x03 ∷ 0x02 ∷ 0x01 ∷ []

abbrev mac_frame : List ℕ
mac_frame = 0xFD ∷ 0xFC ∷ 0xFB ∷ 0xFA ∷ 0x04 ∷ 0x00 ∷ 0xA5 ∷ 0x00 ∷ 0x01 ∷ 0x00 ∷ 0x04 ∷ 0x03 ∷ 0x02 ∷ 0x01 ∷ []

record Named : Type 0 where
  command : Command
  word : ℕ

abbrev named : ℕ → Command → Named
named w c = record { command = c; word = w }

abbrev others : List Named
others = named 0x0060 (SetMaxGates 8 8 5) ∷ named 0x0061 ReadParameters ∷ named 0x0062 (EngineeringMode true)
    ∷ named 0x0063 (EngineeringMode false) ∷ named 0x0064 (SetSensitivity All 40 40) ∷ named 0x00A0 ReadFirmware
    ∷ named 0x00A1 (SetBaud B115200) ∷ named 0x00A2 FactoryReset ∷ named 0x00A4 (Bluetooth true)
    ∷ named 0x00A4 (Bluetooth false) ∷ named 0x00A5 ReadMac ∷ []

abbrev plain : List Named
plain = named 0x00A3 Restart ∷ others

abbrev row : Session → Event → Response → Session → Talk
row s e r t = record { start = s; events = e ∷ []; responses = r ∷ []; left = t }

-- A command that is refused with the number k, into an empty buffer and into one that is long enough.
abbrev refusing : Session → ℕ → Command → Talk
refusing s k c = record {
  start = s;
  events = send c [] ∷ send c (buffer 30) ∷ [];
  responses = sent (number_only k) [] ∷ sent (number_only k) (buffer 30) ∷ [];
  left = s;
}

-- A frame that passes.
abbrev passing : Session → Event → Talk
passing s e = row s e (received Passed) s

abbrev singles : List Talk
singles =
    -- "`EnableConfig` is sent from closed or open and leads to opening"
    row Closed (send EnableConfig (buffer 14)) (sent (wrote 14) enable_frame) Opening
    ∷ row Open (send EnableConfig (buffer 14)) (sent (wrote 14) enable_frame) Opening
    -- "opening becomes open on success (`ok` on) and closed on failure"
    ∷ row Opening (ack 0x00FF true) (received (Ended true)) Open
    ∷ row Opening (ack 0x00FF false) (received (Ended false)) Closed
    -- "Other commands go from open"
    ∷ row Open (send Restart (buffer 14)) (sent (wrote 12) (restart_frame ++ buffer 2)) (Waiting Restart)
    ∷ row Open (send FactoryReset (buffer 12)) (sent (wrote 12) reset_frame) (Waiting FactoryReset)
    ∷ row Open (send ReadMac (buffer 14)) (sent (wrote 14) mac_frame) (Waiting ReadMac)
    -- "`EndConfig` leads to closing"
    ∷ row Open (send EndConfig (buffer 12)) (sent (wrote 12) end_frame) Closing
    -- "closing becomes closed on success and open on failure"
    ∷ row Closing (ack 0x00FE true) (received (Ended true)) Closed
    ∷ row Closing (ack 0x00FE false) (received (Ended false)) Open
    -- "a successful `Restart` closes, any other returns to open"
    ∷ row (Waiting Restart) (ack 0x00A3 true) (received (Ended true)) Closed
    ∷ row (Waiting Restart) (ack 0x00A3 false) (received (Ended false)) Open
    -- "Other ACKs and reports pass through and change nothing"
    ∷ passing (Waiting (EngineeringMode true)) (ack 0x0063 true)
    ∷ passing (Waiting (EngineeringMode false)) (ack 0x0062 true)
    ∷ passing Closed (ack 0x00FF true)
    ∷ passing Open (ack 0x00A3 true)
    ∷ passing Opening (ack 0x00FE true)
    ∷ passing Closing (ack 0x00FF false)
    ∷ passing Closed report
    ∷ passing Open report
    ∷ passing Opening report
    ∷ passing Opening mixed
    ∷ passing Opening unanswered
    ∷ passing Closing report
    -- "The station may give up a wait, which closes the session; giving up with no wait on changes nothing"
    ∷ row Opening give_up gave_up Closed
    ∷ row Closing give_up gave_up Closed
    ∷ row Open give_up gave_up Open
    ∷ row Closed give_up gave_up Closed
    -- "7, a command other than `EnableConfig` in a closed session", "both before 2 and 4"
    ∷ refusing Closed 7 EndConfig
    ∷ refusing Closed 7 (SetMaxGates 9 8 5)
    ∷ refusing Closed 7 (SetMaxGates 8 0 5)
    -- "8, any command while opening, waiting or closing", "both before 2 and 4"
    ∷ refusing Opening 8 EnableConfig
    ∷ refusing (Waiting ReadMac) 8 EnableConfig
    ∷ refusing Closing 8 EnableConfig
    ∷ refusing Opening 8 (SetMaxGates 9 8 5)
    ∷ refusing (Waiting ReadMac) 8 (SetMaxGates 9 8 5)
    ∷ refusing Closing 8 (SetMaxGates 9 8 5)
    ∷ refusing Closing 8 (SetMaxGates 8 0 5)
    -- then 2 and 4: "A refused command leaves the session where it was"
    ∷ row Open (send (SetMaxGates 9 8 5) []) (sent (number_only 2) []) Open
    ∷ row Open (send (SetMaxGates 1 8 5) (buffer 30)) (sent (number_only 2) (buffer 30)) Open
    ∷ row Open (send ReadMac (buffer 13)) (sent (record { number = 4; needed = 14; value = 0 }) (buffer 13)) Open
    ∷ row Closed (send EnableConfig (buffer 13)) (sent (record { number = 4; needed = 14; value = 0 }) (buffer 13))
    Closed
    -- an open session whose `EnableConfig` fails is closed, and an acknowledgement that comes late passes
    ∷ record {
      start = Open;
      events = send EnableConfig (buffer 14) ∷ ack 0x00FF false ∷ ack 0x00FF true ∷ [];
      responses = sent (wrote 14) enable_frame ∷ received (Ended false) ∷ received Passed ∷ [];
      left = Closed;
    }
    ∷ []

abbrev pub talks : List Talk
talks = singles
    -- "Other commands go from open": each
    ++ (map (λ n. row Open (send n.command (buffer 30)) (sent (wrote (length (command_frame n.command)))
    (written (buffer 30) (command_frame n.command))) (Waiting n.command)) plain
    -- "any other returns to open": each, good and failed
    ++ (map (λ n. row (Waiting n.command) (ack n.word true) (received (Ended true)) Open) others
    ++ (map (λ n. row (Waiting n.command) (ack n.word false) (received (Ended false)) Open) others
    -- another command's acknowledgement, and a report, while each is waited for
    ++ (map (λ n. passing (Waiting n.command) (ack 0x00FF true)) plain
    ++ (map (λ n. passing (Waiting n.command) report) plain
    -- each given up
    ++ (map (λ n. row (Waiting n.command) give_up gave_up Closed) plain
    -- each in a closed session, while opening, while it is itself waited for, and while closing
    ++ (map (λ n. refusing Closed 7 n.command) plain
    ++ (map (λ n. refusing Opening 8 n.command) plain
    ++ (map (λ n. refusing (Waiting n.command) 8 n.command) plain
    ++ map (λ n. refusing Closing 8 n.command) plain)))))))))
