use Rattle.std.proofs.Common.{◌≡◌, filter, map, take}
use Rattle.mail_tree.specs.Places.{place_id}
use Rattle.mail_searches.specs.Searching.{is_own}
use Rattle.search_mends.proofs.all.own_ids.Given as goal

-- those among the places so far
abbrev pub invariant-loop-place : goal.invariant-loop-place
invariant-loop-place l = map (λ n. n.bits) l.ids.items ≡ filter (is_own l.own) (map place_id (take l.place-index l.place-items))
