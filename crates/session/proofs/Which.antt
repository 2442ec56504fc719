-- The three commands that a session treats specially: a command is one of them exactly if it has that one's word.
use mathlib.Core.Path.{◌≡◌, refl, sym, ◌∙◌, ap}
use mathlib.Core.Logic.{◌≢◌, ◌⊎◌, inl, inr}
use mathlib.Core.Bool.{true, false, false≢true}
use lib.Dec.{eqb}
use borrow.Author.Tests.{eq-eqb}
use Rattle.command.specs.Command.{word_of}
use Rattle.command.specs.declared.Command.{Command}
use Rattle.command.specs.declared.Command.TheVariants.{EnableConfig, EndConfig, SetMaxGates, ReadParameters}
use Rattle.command.specs.declared.Command.TheVariants.{EngineeringMode, SetSensitivity, ReadFirmware, SetBaud}
use Rattle.command.specs.declared.Command.TheVariants.{FactoryReset, Restart, Bluetooth, ReadMac}

pub data Special : Command → Type 0 where
  is_enable : Special EnableConfig
  is_end : Special EndConfig
  is_restart : Special Restart

record Other (c : Command) : Type 0 where
  pub enables : eqb (word_of c) 0x00FF ≡ false
  pub closes : eqb (word_of c) 0x00FE ≡ false
  pub restarts : eqb (word_of c) 0x00A3 ≡ false

data Which (c : Command) : Type 0 where
  special : (d : Command) → Special d → c ≡ d → Which c
  unnamed : Other c → Which c

which : (c : Command) → Which c
which EnableConfig = special EnableConfig is_enable refl
which EndConfig = special EndConfig is_end refl
which (SetMaxGates m s n) = unnamed (record { enables = refl; closes = refl; restarts = refl })
which ReadParameters = unnamed (record { enables = refl; closes = refl; restarts = refl })
which (EngineeringMode true) = unnamed (record { enables = refl; closes = refl; restarts = refl })
which (EngineeringMode false) = unnamed (record { enables = refl; closes = refl; restarts = refl })
which (SetSensitivity g m s) = unnamed (record { enables = refl; closes = refl; restarts = refl })
which ReadFirmware = unnamed (record { enables = refl; closes = refl; restarts = refl })
which (SetBaud b) = unnamed (record { enables = refl; closes = refl; restarts = refl })
which FactoryReset = unnamed (record { enables = refl; closes = refl; restarts = refl })
which Restart = special Restart is_restart refl
which (Bluetooth on) = unnamed (record { enables = refl; closes = refl; restarts = refl })
which ReadMac = unnamed (record { enables = refl; closes = refl; restarts = refl })

-- Two of the three are the same, or have different words.
between : (c d : Command) → Special c → Special d → (c ≡ d) ⊎ (eqb (word_of c) (word_of d) ≡ false)
between c d is_enable is_enable = inl refl
between c d is_enable is_end = inr refl
between c d is_enable is_restart = inr refl
between c d is_end is_enable = inr refl
between c d is_end is_end = inl refl
between c d is_end is_restart = inr refl
between c d is_restart is_enable = inr refl
between c d is_restart is_end = inr refl
between c d is_restart is_restart = inl refl

other_word : (c d : Command) → Other c → Special d → eqb (word_of c) (word_of d) ≡ false
other_word c d o is_enable = o.enables
other_word c d o is_end = o.closes
other_word c d o is_restart = o.restarts

-- A command is a given one of the three, or has another word.
named : (c d : Command) → Special d → (c ≡ d) ⊎ (eqb (word_of c) (word_of d) ≡ false)
named c d p = go (which c)
  where
    go : Which c → (c ≡ d) ⊎ (eqb (word_of c) (word_of d) ≡ false)
    go (special b q e) = rw e (between b d q p)
    go (unnamed o) = inr (other_word c d o p)

-- A command with another word is another command, and the other way round.
pub other_command : (c d : Command) → eqb (word_of c) (word_of d) ≡ false → c ≢ d
other_command c d q e =
    false≢true (sym q ∙ ap (λ (x : Command). eqb (word_of x) (word_of d)) e ∙ eq-eqb (word_of d) (word_of d) refl)

pub named_apart : (c d : Command) → Special d → c ≢ d → eqb (word_of c) (word_of d) ≡ false
named_apart c d p n = go (named c d p)
  where
    go : (c ≡ d) ⊎ (eqb (word_of c) (word_of d) ≡ false) → eqb (word_of c) (word_of d) ≡ false
    go (inl e) = absurd (n e)
    go (inr q) = q

pub named_decided : (c d : Command) → Special d → (c ≡ d) ⊎ (c ≢ d)
named_decided c d p = go (named c d p)
  where
    go : (c ≡ d) ⊎ (eqb (word_of c) (word_of d) ≡ false) → (c ≡ d) ⊎ (c ≢ d)
    go (inl e) = inl e
    go (inr q) = inr (other_command c d q)
