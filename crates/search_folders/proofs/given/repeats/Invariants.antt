use Rattle.std.proofs.Common.{◌≡◌, drop, map}
use Rattle.mail_searches.specs.Criteria.{repeats}
use Rattle.search_folders.proofs.given.repeats.Given as goal

-- none of those before stands there again
abbrev pub invariant-loop-at : goal.invariant-loop-at
invariant-loop-at l = repeats (map (λ n. n.bits) l.folders) ≡ repeats (map (λ n. n.bits) (drop l.at l.folders))
