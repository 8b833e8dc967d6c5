use Rattle.std.proofs.Common.{◌≡◌, drop, map}
use Rattle.search_obj.specs.Scope.{is_among}
use Rattle.mail_searches.proofs.scoping.is_among.Given as goal

-- none of those before is the folder
abbrev pub invariant-loop-given : goal.invariant-loop-given
invariant-loop-given l = is_among (map (λ n. n.bits) l.folders) l.fn.folder.bits ≡ is_among (map (λ n. n.bits) (drop l.given-index l.folders)) l.fn.folder.bits
