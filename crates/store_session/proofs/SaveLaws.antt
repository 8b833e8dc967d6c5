-- What `save` comes to where there are searches: nothing.
use Rattle.std.proofs.Common.{◌≡◌, ◌∙◌, List, [], ◌∷◌, None, Ok, refl, ap, inl, inr}
use Rattle.std.proofs.lemmas.Bool.{cases_Bool}
use Rattle.command_text.specs.declared.command.Command.TheVariants.{Save}
use Rattle.command_text.specs.declared.reply.LastLine.TheVariants.{Done}
use Rattle.search_store.proofs.mail_draft_laws.FitLaws.{no-entries}
use Rattle.mail_tree.specs.Changing.{Changed, ◌>>=◌, nothing, within_limits}
use Rattle.mail_tree.specs.Folders.{replied, unchanged}
use Rattle.mail_tree.specs.Step as tree
use Rattle.mail_tree.specs.Step.{outcome as tree_outcome}
use Rattle.mail_tree.specs.Tree.{Tree}
use Rattle.mail_searches.specs.Criteria.{Coming, staying}
use Rattle.mail_searches.specs.Relisting.{Around, around, settled_search, settled_searches}
use Rattle.mail_searches.specs.Searches.{Search, runs}
use Rattle.mail_searches.specs.Searching.{Searching}
use Rattle.mail_searches.specs.Step.{after, concluded, if_within, outcome}

-- what `save` comes to
abbrev pub saved : Searching → Coming
saved X = record { outcome = unchanged X.tree (replied Done); own = X.own; searches = X.searches }

-- where no message is touched a search stays
one_stays : (T : Tree) (d : Around) (s : Search) (D : Changed) → settled_search T d [] s D ≡ Ok D
unfolding settled_search
one_stays T d s D = elim (cases_Bool (runs s)) [
  | inl b ↦ rw b refl
  | inr b ↦ rw b refl
]

-- and so does each
all_stay : (T : Tree) (d : Around) (ss : List Search) (D : Changed) → settled_searches T d [] ss D ≡ Ok D
all_stay T d [] D = refl
all_stay T d (s ∷ ss) D = ap (λ a. a >>= settled_searches T d [] ss) (one_stays T d s D) ∙ all_stay T d ss D

-- nothing keeps to the limits
nothing_within : (T : Tree) → within_limits T None nothing ≡ Ok tt
unfolding within_limits
nothing_within T = rw (no-entries nothing refl) refl

concludes : (T : Tree) (ss : List Search) → concluded T ss Save (unchanged T (replied Done)) ≡ Ok (unchanged T (replied Done))
unfolding concluded
concludes T ss =
    let o = unchanged T (replied Done) in
    ap (λ a. (a >>= λ D. Ok (record o { changed = D })) >>= if_within T) (all_stay T (around T o) ss o.changed) ∙ ap (λ a. a >>= λ u. Ok o) (nothing_within T)

pub saved_outcome : (X : Searching) → outcome X Save ≡ Ok (saved X)
unfolding outcome tree_outcome
saved_outcome X = ap (λ a. a >>= staying X) (concludes X.tree X.searches)

-- nothing changes for it
pub saved_after : (X : Searching) → after X (saved X) ≡ X
saved_after X =
    let entries = no-entries nothing refl in λ i. record {
      tree = record {
        places = X.tree.places;
        objects = tree.with_changes (entries i) X.tree.objects;
        others = tree.without_changed (entries i) X.tree.others;
        last = X.tree.last;
      };
      own = X.own;
      searches = X.searches;
    }
