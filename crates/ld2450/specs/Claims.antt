-- What request 6 prints of its signed numbers, and where the fields are in a frame.
--   said a b         the number that the byte a and the byte b after it say
--   seen             a frame of three targets: `apart`, at x -782, y 1,713; `zeros`, present and all 0; and none
--   crowd            a frame of three present targets, no two alike in any field: `apart`, `ahead`, `aside`
--   Examples         "So 0E 03 is -782, B1 86 is 1,713, and 00 00 and 00 80 are both 0."; and how these frames are read
--   WrittenExample   the frames that are written for these targets: "zero of a present target as 00 80"
use Rattle.std.specs.Prelude.{◌≡◌, true, List, [], ◌∷◌, ◌++◌, ℕ, ℤ, pos, neg_ℤ, replicate, Ok}
use Rattle.wire.specs.Number.{little}
use Rattle.ld2450.specs.Signed.{signed_of}
use Rattle.ld2450.specs.Target.{absent, target_of}
use Rattle.ld2450.specs.Frame.{parsed_targets}
use Rattle.ld2450.specs.Bytes.{targets_frame}
use Rattle.ld2450.specs.declared.targets.Target.{Target}

abbrev pub said : ℕ → ℕ → ℤ
said a b = signed_of (little (a ∷ b ∷ []))

abbrev pub seen : List ℕ
seen = (0xAA ∷ 0xFF ∷ 0x03 ∷ 0x00 ∷ 0x0E ∷ 0x03 ∷ 0xB1 ∷ 0x86 ∷ 0x10 ∷ 0x00 ∷ 0x40 ∷ 0x01 ∷ [])
    ++ ((0x00 ∷ 0x80 ∷ 0x00 ∷ 0x00 ∷ 0x00 ∷ 0x80 ∷ 0x00 ∷ 0x00 ∷ []) ++ (replicate 8 0x00 ++ (0x55 ∷ 0xCC ∷ [])))

abbrev pub apart : Target
apart = record { present = true; x = neg_ℤ (pos 782); y = pos 1713; speed = neg_ℤ (pos 16); resolution = 320 }

abbrev pub zeros : Target
zeros = record { present = true; x = pos 0; y = pos 0; speed = pos 0; resolution = 0 }

abbrev pub crowd : List ℕ
crowd = (0xAA ∷ 0xFF ∷ 0x03 ∷ 0x00 ∷ 0x0E ∷ 0x03 ∷ 0xB1 ∷ 0x86 ∷ 0x10 ∷ 0x00 ∷ 0x40 ∷ 0x01 ∷ [])
    ++ ((0x64 ∷ 0x80 ∷ 0xD0 ∷ 0x87 ∷ 0x05 ∷ 0x80 ∷ 0x68 ∷ 0x01 ∷ [])
    ++ ((0x2C ∷ 0x01 ∷ 0xC4 ∷ 0x89 ∷ 0x07 ∷ 0x00 ∷ 0x4B ∷ 0x00 ∷ []) ++ (0x55 ∷ 0xCC ∷ [])))

abbrev pub ahead : Target
ahead = record { present = true; x = pos 100; y = pos 2000; speed = pos 5; resolution = 360 }

abbrev pub aside : Target
aside = record { present = true; x = neg_ℤ (pos 300); y = pos 2500; speed = neg_ℤ (pos 7); resolution = 75 }

pub record Examples : Type 0 where
  pub minus : said 0x0E 0x03 ≡ neg_ℤ (pos 782)
  pub plus : said 0xB1 0x86 ≡ pos 1713
  pub clear_zero : said 0x00 0x00 ≡ pos 0
  pub set_zero : said 0x00 0x80 ≡ pos 0
  pub still : target_of (replicate 6 0x00 ++ (0x40 ∷ 0x01 ∷ []))
      ≡ record { present = true; x = pos 0; y = pos 0; speed = pos 0; resolution = 320 }
  pub read : parsed_targets seen ≡ Ok (apart ∷ zeros ∷ absent ∷ [])
  pub each : parsed_targets crowd ≡ Ok (apart ∷ ahead ∷ aside ∷ [])

pub record WrittenExample : Type 0 where
  pub some : targets_frame (apart ∷ zeros ∷ absent ∷ [])
      ≡ (0xAA ∷ 0xFF ∷ 0x03 ∷ 0x00 ∷ 0x0E ∷ 0x03 ∷ 0xB1 ∷ 0x86 ∷ 0x10 ∷ 0x00 ∷ 0x40 ∷ 0x01 ∷ [])
      ++ ((0x00 ∷ 0x80 ∷ 0x00 ∷ 0x80 ∷ 0x00 ∷ 0x80 ∷ 0x00 ∷ 0x00 ∷ []) ++ (replicate 8 0x00 ++ (0x55 ∷ 0xCC ∷ [])))
  pub each : targets_frame (apart ∷ ahead ∷ aside ∷ []) ≡ crowd
