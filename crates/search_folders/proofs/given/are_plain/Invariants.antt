use Rattle.std.proofs.Common.{◌≡◌, drop, map}
use Rattle.std.specs.List.{list_all}
use Rattle.mail_searches.specs.Searches.{is_plain_at}
use Rattle.search_folders.proofs.given.are_plain.Given as goal

-- each of those before is plain
abbrev pub invariant-loop-folder : goal.invariant-loop-folder
invariant-loop-folder l = list_all (is_plain_at l.places) (map (λ n. n.bits) l.folders) ≡ list_all (is_plain_at l.places) (map (λ n. n.bits) (drop l.folder-index l.folders))
