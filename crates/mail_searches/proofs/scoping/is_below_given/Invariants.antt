use Rattle.std.proofs.Common.{◌≡◌, ℕ, Bool, ◌-◌, ◌&&◌, map}
use Rattle.std.specs.List.{list_any}
use Rattle.mail_tree.specs.Places.{path, path_from}
use Rattle.search_obj.specs.Scope.{is_among}
use Rattle.mail_searches.specs.Searches.{is_plain_at}
use Rattle.mail_searches.proofs.scoping.is_below_given.Given as goal

-- what is left of the path meets one of the folders exactly where the whole path does
abbrev pub invariant-loop-turn : goal.invariant-loop-turn
invariant-loop-turn l =
    let test : ℕ → Bool = λ g. is_among (map (λ n. n.bits) l.given) g && is_plain_at l.places g in
    list_any test (path l.places l.fn.folder.bits) ≡ list_any test (path_from (64 - l._turn) l.places l.at.bits)
