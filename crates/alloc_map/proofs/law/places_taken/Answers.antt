use Rattle.alloc_map.proofs.FreeLaws.{others-left}
use Rattle.alloc_map.proofs.TakenLaws.{covered-beside, taken-beside, taken-both, taken-reordered}
use Rattle.alloc_map.proofs.law.places_taken.Goals as goal

pub returns : goal.returns
returns c = record {
  reordered = taken-reordered;
  both = taken-both;
  beside = taken-beside;
  covers = covered-beside;
  leave = others-left;
}
