-- Draws and loads of small seeds, computed.
use mathlib.Core.Path.{refl}
use Rattle.wire.specs.Family.{framed}
use Rattle.load_writer.specs.Draw.{draw_of}
use Rattle.load_writer.specs.Load.{piece, laid_down}
use Rattle.load_writer.specs.Claims.{LoadExamples}

pub examples : LoadExamples
unfolding framed draw_of piece laid_down
examples = record {
  first = refl;
  second = refl;
  kept = refl;
  byte = refl;
  report = refl;
  cut = refl;
  after_report = refl;
  after_cut = refl;
  ack = refl;
  three = refl;
  stopped = refl;
}
