use Rattle.std.proofs.Common.{◌≡◌, ◌+◌, ◌-◌, ◌≤◌, ◌++◌, vec_len}
use Rattle.mail_tree.specs.Places.{path}
use Rattle.mail_tree.proofs.PathLaws.{beyond}
use Rattle.mail_tree.proofs.places.Places.path.Given as goal

-- the ids so far, with those above them, are all
abbrev pub invariant-loop-turn : goal.invariant-loop-turn
invariant-loop-turn l = record {
  few : vec_len l.ids ≤ l._turn + 1;
  so_far : l.ids.items ++ beyond (64 - l._turn) l.self l.at.bits ≡ path l.self l.fn.folder.bits;
}
