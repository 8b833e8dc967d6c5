-- A new store is in order.
use Rattle.std.proofs.Common.{◌≡◌, ◌∙◌, ℕ, ◌%◌, true, List, arith, refl, sym, subst, ap, inr}
use Rattle.std.proofs.lemmas.Bool.{false≢true}
use Rattle.std.proofs.lemmas.Option.{none-some}
use Rattle.mapi_values.specs.Keyed.{keys_ascend}
use Rattle.mail_laws.proofs.FoundStart.{starts_found}
use Rattle.mail_laws.proofs.Starting.{four, starts_whole}
use Rattle.mail_searches.specs.Searches.{find_search, search_id}
use Rattle.mail_searches.specs.Searching.{AllFresh, AreSearches, IsOfSearch, Searching, StartsSearching, is_own}
use Rattle.mail_tree.specs.Found.{IsFound, IsFoundBeside}
use Rattle.mail_tree.specs.Places.{find_place}
use Rattle.mail_tree.specs.Tree.{Tree}
use Rattle.search_lists.specs.Order.{AreMarked, InOrder}
use Rattle.search_lists.specs.Laws.{AllShow}
use Rattle.search_laws.specs.Laws.{StartsInOrder}
use Rattle.search_laws.proofs.Attachments.{attachments_start}
use Rattle.search_laws.proofs.OwnSteps.{place_of}

-- what an opening finds it finds whatever may stand beside
found-beside : (beside : ℕ → Type 0) (T : Tree) → IsFound T → IsFoundBeside beside T
found-beside beside T found = record { listed = found.listed; reached = found.reached; owned = λ q o e. inr (found.owned q o e) }

module _ (name : List ℕ) (X : Searching) (s : StartsSearching name X) where
  none-own : (f : ℕ) → is_own X.own f ≡ true → ⊥
  none-own f e = false≢true (sym (ap (λ own. is_own own f) s.none_own) ∙ e)

  no-searches : AreSearches X
  no-searches = record {
    own_ascend = ap (keys_ascend (λ f. f) 0) s.none_own;
    ascend = ap (keys_ascend search_id 0) s.none;
    among = λ f z e. absurd (none-some z (sym (ap (find_search f) s.none) ∙ e));
    kinds = λ f e. absurd (none-own f e);
    placed = λ f e. absurd (none-own f e);
    criteria = λ f e. absurd (none-own f e);
    tables = λ f e. absurd (none-own f e);
  }

  -- its folders are plain ones
  no-marks : AreMarked X
  no-marks = record {
    foreign = λ f there three other are.
        let p = place_of X.tree.places f there in
        let two = four (λ g q. g % 32 ≡ 2) refl refl refl refl f p.0 (ap (find_place f) (sym s.tree.places) ∙ p.1) in omega (arith, two, three);
    updates = λ f node parent own at bare. none-own f own;
  }

  pub starts-so : InOrder true X
  starts-so =
      let w = starts_whole name X.tree s.tree in
      record {
        whole = w.0;
        found = found-beside (IsOfSearch X.own) X.tree (starts_found name X.tree s.tree);
        mirrors = λ t. w.1;
        counts = λ t. w.2;
        attachments = λ t. attachments_start name X.tree s.tree;
        lists = λ t. subst (AllShow X.tree) (sym s.none) tt;
        searches = no-searches;
        fresh = subst (AllFresh X.tree) (sym s.none) tt;
        marked = no-marks;
      }

pub starts_so : StartsInOrder
starts_so name X s = starts-so name X s
