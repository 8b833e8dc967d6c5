use Rattle.std.proofs.Common.{◌≡◌, ◌+◌, ◌-◌, ◌&&◌, drop, length, nat_lt}
use Rattle.std.specs.List.{list_any}
use Rattle.mail_tree.specs.Places.{is_within, moves_deep, path, place_id}
use Rattle.mail_tree.proofs.places.Places.moves_deep.Given as goal

-- no place so far, so the rest decides
abbrev pub invariant-loop-place : goal.invariant-loop-place
invariant-loop-place l = list_any (λ g. is_within l.self l.fn.folder.bits (place_id g) && nat_lt 64 (length (path l.self l.fn.parent.bits) + (length (path l.self (place_id g)) - length (path l.self l.fn.folder.bits)))) (drop l.place-index l.self)
    ≡ moves_deep l.self l.fn.folder.bits l.fn.parent.bits
