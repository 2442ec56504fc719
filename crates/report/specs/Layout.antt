-- Report data: `data_type`, AA, nine bytes, an engineering block, 55, 00.
--   data_type_in s        the type of the data s
--   body s            the bytes of s between AA and the last two
--   block s           the bytes of the body after the nine basic ones
--   state_in s         the state byte, the first of the nine
--   is_engineering t   t is the type of an engineering report
--   layout_of s        the type and the basic fields of the data s
use Rattle.std.specs.Prelude.{List, Bool, ℕ, ◌-◌, eqb, length, get_or, take, drop}
use Rattle.report.specs.Basic.{basic_of}
use Rattle.report.specs.declared.layout.Layout.{Layout}

abbrev pub data_type_in : List ℕ → ℕ
data_type_in s = get_or s 0 0

abbrev pub body : List ℕ → List ℕ
body s = take (length s - 4) (drop 2 s)

abbrev pub block : List ℕ → List ℕ
block s = drop 9 (body s)

abbrev pub state_in : List ℕ → ℕ
state_in s = (basic_of (body s)).state

abbrev pub is_engineering : ℕ → Bool
is_engineering t = eqb t 0x01

abbrev pub layout_of : List ℕ → Layout
layout_of s = record { data_type = data_type_in s; basic = basic_of (body s) }
