-- What the reader answers, by the only command that can encode to the bytes; that the rules leave no choice; and that
-- each number has its cause.
use mathlib.Core.Path.{◌≡◌, refl, sym, ap, ◌∙◌}
use mathlib.Core.Logic.{◌↔◌, inl, inr}
use mathlib.Core.List.{List}
use mathlib.Core.Bool.{Bool, true, false}
use Rattle.std.specs.Prelude.{Some, Ok, Err}
use Rattle.std.specs.declared.result.Result.{Result}
use Prim.Native.Nat.{ℕ}
use native.Mathlib.Omega.{arith}
use lib.ListN.{take}
use Rattle.wire.specs.Number.{little}
use Rattle.wire.specs.declared.Kind.TheVariants as Family
use Rattle.refusal.specs.Refusal.{accepted}
use Rattle.refusal.specs.declared.Error.{Error}
use Rattle.refusal.specs.declared.Error.TheVariants.{InvalidFormat, UnknownCommand}
use Rattle.cursor.specs.CommandFrame.{data_with}
use Rattle.wire.proofs.Framed.{framed_length}
use Rattle.command.proofs.Frames.{frame_bounds}
use Rattle.command_reader.specs.CommandFrame.{IsCommandFrame, ack_bit}
use Rattle.command_reader.proofs.CommandFrames.{framed_command}
use Rattle.command.specs.Command.{word_of, value_of, command_frame, encodable}
use Rattle.command.specs.declared.Command.{Command}
use Rattle.command.specs.declared.Command.TheVariants.{EnableConfig, EndConfig, SetMaxGates, ReadParameters}
use Rattle.command.specs.declared.Command.TheVariants.{EngineeringMode, SetSensitivity, ReadFirmware, SetBaud}
use Rattle.command.specs.declared.Command.TheVariants.{FactoryReset, Restart, Bluetooth, ReadMac}
use Rattle.command_reader.specs.Candidate.{candidate_in, encodes_to, if_encodes_to}
use Rattle.command_reader.specs.Read.{EncodesTo, ReadTo, is_command, is_unknown, is_invalid, OneAnswer}
use Rattle.command_reader.specs.Read.{ReadCauses}
use Rattle.command_reader.proofs.Candidates.{candidate_written}
use Rattle.command_reader.proofs.Encodes.{encodes_sound, encodes_complete, unencodable}

-- No command's word has the ACK bit.
word_clear : (c : Command) → ack_bit (little (take 2 (data_with (word_of c) (value_of c)))) ≡ 0
unfolding data_with
word_clear EnableConfig = refl
word_clear EndConfig = refl
word_clear (SetMaxGates m s n) = refl
word_clear ReadParameters = refl
word_clear (EngineeringMode true) = refl
word_clear (EngineeringMode false) = refl
word_clear (SetSensitivity g m s) = refl
word_clear ReadFirmware = refl
word_clear (SetBaud b) = refl
word_clear FactoryReset = refl
word_clear Restart = refl
word_clear (Bluetooth on) = refl
word_clear ReadMac = refl

-- So the frame of every command is a command frame.
pub frame_command : (c : Command) → IsCommandFrame (command_frame c)
frame_command c =
    let d = data_with (word_of c) (value_of c) in
    let size = framed_length Family.Command d in
    let bounds = frame_bounds c in
    framed_command d (omega arith) (omega arith) (word_clear c)

module _ (s : List ℕ) where
  encodes_command : (c : Command) → EncodesTo c s → IsCommandFrame s
  encodes_command c h = rw h.1 (frame_command c)

  -- Two commands that encode to the same bytes are one: the candidate.
  encodes_candidate : (c : Command) → EncodesTo c s → candidate_in s ≡ c
  encodes_candidate c h = rw h.1 (candidate_written c h.0)

  encodes_unique : (b c : Command) → EncodesTo b s → EncodesTo c s → b ≡ c
  encodes_unique b c h k = sym (encodes_candidate b h) ∙ encodes_candidate c k

  -- The rules leave no choice.
  one : {p q : Result Command Error} → ReadTo s p → ReadTo s q → p ≡ q
  one (is_command b h) (is_command c k) = ap Ok (encodes_unique b c h k)
  one (is_command b h) (is_unknown a n) = absurd (n b h)
  one (is_command b h) (is_invalid n) = absurd (n (encodes_command b h))
  one (is_unknown a n) (is_command c k) = absurd (n c k)
  one (is_unknown a n) (is_unknown b m) = refl
  one (is_unknown a n) (is_invalid m) = absurd (m a)
  one (is_invalid n) (is_command c k) = absurd (n (encodes_command c k))
  one (is_invalid n) (is_unknown a m) = absurd (n a)
  one (is_invalid n) (is_invalid m) = refl

  pub one_answer : OneAnswer s
  one_answer p q h k = one h k

  -- A string that is no command frame gets 1; for a command frame the candidate decides.
  pub read_invalid : (b : Bool) → ((b ≡ true) ↔ IsCommandFrame s) → b ≡ false → ReadTo s (Err InvalidFormat)
  read_invalid b h e = is_invalid (λ a. let t = h.1 a in let z : ◌≡◌ {A = ℕ} 0 1 = cc in omega arith)

  none_encodes : encodes_to s (candidate_in s) ≡ false → (c : Command) → EncodesTo c s → ⊥
  none_encodes e c h =
      let t = encodes_complete s c h in
      let f = rw (encodes_candidate c h) at e in
      let z : ◌≡◌ {A = ℕ} 0 1 = cc in
      omega arith

  pub read_valid : IsCommandFrame s → ReadTo s (if_encodes_to s (candidate_in s))
  unfolding if_encodes_to
  read_valid a = go (encodes_to s (candidate_in s)) refl
    where
      go : (b : Bool) → encodes_to s (candidate_in s) ≡ b → ReadTo s (if_encodes_to s (candidate_in s))
      go true e = rw e (is_command (candidate_in s) (encodes_sound s (candidate_in s) e))
      go false e = rw e (is_unknown a (none_encodes e))

  -- A command frame whose candidate the module does not take gets 5.
  pub read_unencodable : IsCommandFrame s → encodable (candidate_in s) ≡ false → ReadTo s (Err UnknownCommand)
  read_unencodable a e = rw (unencodable s (candidate_in s) e) at (read_valid a)

  -- Each number is given exactly in its cause.
  pub read_causes : {r : Result Command Error} → ReadTo s r → ReadCauses s r
  read_causes (is_command c h) = record {
    read = λ d. (
      λ q. let e = ap (λ x. x.value) q in let f : c ≡ d = cc in rw f at h,
      λ k. ap (λ x. accepted (Some x)) (encodes_unique c d h k),
    );
    unique = encodes_unique;
    invalid = (λ z. absurd (omega arith), λ n. absurd (n (encodes_command c h)));
    unknown = (λ z. absurd (omega arith), λ k. absurd (k.1 c h));
    total = inl refl;
    zeros = λ n. absurd (n refl);
  }
  read_causes (is_unknown a n) = record {
    read = λ d. (λ q. let z = ap (λ x. x.number) q in absurd (omega arith), λ k. absurd (n d k));
    unique = encodes_unique;
    invalid = (λ z. absurd (omega arith), λ m. absurd (m a));
    unknown = (λ z. (a, n), λ k. refl);
    total = inr (inr refl);
    zeros = λ n. (refl, refl);
  }
  read_causes (is_invalid n) = record {
    read = λ d. (λ q. let z = ap (λ x. x.number) q in absurd (omega arith), λ k. absurd (n (encodes_command d k)));
    unique = encodes_unique;
    invalid = (λ z. n, λ m. refl);
    unknown = (λ z. absurd (omega arith), λ k. absurd (n k.0));
    total = inr (inl refl);
    zeros = λ n. (refl, refl);
  }
