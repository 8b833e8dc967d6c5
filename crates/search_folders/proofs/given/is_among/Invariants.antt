use Rattle.std.proofs.Common.{◌≡◌, drop, map}
use Rattle.search_obj.specs.Scope.{is_among}
use Rattle.search_folders.proofs.given.is_among.Given as goal

-- none of those before is the folder
abbrev pub invariant-loop-other : goal.invariant-loop-other
invariant-loop-other l = is_among (map (λ n. n.bits) l.folders) l.fn.folder.bits ≡ is_among (map (λ n. n.bits) (drop l.other-index l.folders)) l.fn.folder.bits
