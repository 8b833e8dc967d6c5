use Rattle.std.proofs.Common.{◌≡◌, drop, map}
use Rattle.search_obj.specs.Scope.{is_among}
use Rattle.mail_searches.proofs.own.OwnFolders.contains.Given as goal

-- none of those before is the folder
abbrev pub invariant-loop-own : goal.invariant-loop-own
invariant-loop-own l = is_among (map (λ f. f.nid.bits) l.own-items) l.fn.folder.bits ≡ is_among (map (λ f. f.nid.bits) (drop l.own-index l.own-items)) l.fn.folder.bits
