-- What mending a search comes to, step by step.
use Rattle.std.proofs.Common.{◌≡◌, ◌∙◌, ◌⊎◌, ℕ, ◌||◌, Bool, true, false, Option, Result, Ok, Err, IfOk, is_some, inl, inr, subst, sym}
use Rattle.std.specs.Result.{IsErrAnd}
use Rattle.search_obj.specs.Crits.{Crit}
use Rattle.command_text.specs.declared.reply.LastLine.TheVariants.{Done}
use Rattle.mail_objects.specs.Forms.{Ctx, Tbl}
use Rattle.mail_tree.specs.Changing.{Answer, ◌>>=◌}
use Rattle.mail_tree.specs.Folders as tree
use Rattle.mail_tree.specs.Folders.{changing, replied}
use Rattle.mail_tree.specs.Tree.{Tree}
use Rattle.store_session.specs.mail_draft.Answers.{Says}
use Rattle.store_session.specs.mail_draft.Desks.{Comes, coming_of}
use Rattle.store_session.specs.mail_draft.Sight.{Sight}
use Rattle.store_session.specs.mail_draft.declared.stop.Stop.{Stop}
use Rattle.store_session.proofs.mail_draft_laws.DeskCalls.{no_ok}
use Rattle.store_session.proofs.mail_draft_laws.Passes.{stop_says, then_says}
use Rattle.store_session.proofs.mail_folders_laws.Steps.{stopped}
use Rattle.mail_searches.specs.Searches.{find_search}
use Rattle.mail_searches.specs.Searching.{Searching}
use Rattle.store_session.proofs.mail_store_laws.QuietLaws.{Right, if_any, if_then, quiet, then_changing}
use Rattle.store_session.specs.mail_store.Planning.{StaysUnwritten}
use Rattle.store_session.specs.search_folders.Pieces.{criteria_at}
use Rattle.search_mending.specs.Mending.{Mending, is_first, list_of_any, mended_search, mending, mending_with, touched_if, turned, with_list}
use Rattle.search_mends.specs.Mendings.{ComesMended, mending_beside}
use Rattle.search_mends.specs.declared.coming.MendingBeside.{MendingBeside}

-- the first of two, or else the other
pub one_of_two : (a b either x y : Bool) → a ≡ x → b ≡ y → ((a ≡ true) × (either ≡ true)) ⊎ ((a ≡ false) × (either ≡ b)) → either ≡ (x || y)
one_of_two a b either x y first second (inl this) = let on : x ≡ true = sym first ∙ this.0 in rw on this.1
one_of_two a b either x y first second (inr other) = let off : x ≡ false = sym first ∙ other.0 in rw off (other.1 ∙ second)

-- what comes of the changes of a mending
abbrev pub mending_comes : ℕ → Option Tbl → Ctx → Crit → Bool → Tree → Answer tree.Outcome
mending_comes f list c k b T = turned f c k >>= with_list T f list >>= touched_if b T f >>= changing T (replied Done)

module _ {A : Type 0} {old new : Sight A} (f : ℕ) (list : Option Tbl) (c : Ctx) (k : Crit) (b : Bool) (is : b ≡ (is_some list || is_first k.version)) where
  -- its searches stay what they are
  pub mends_both : {m : MendingBeside} → Comes old new (λ T D. mending_comes f list c k b T) (Ok m.coming) → m.stale ≡ is_some list → m.first ≡ is_first k.version
      → ComesMended old new (λ X. Unit {0}) (λ X. mending_with X f list (c, k)) (Ok m)
  unfolding mending_with
  mends_both {m} comes stale first = record {
    says = λ X s known.
        then_says (coming_of X.tree new.changed) (mending_beside X new.changed) (mending_comes f list c k (is_some list || is_first k.version) X.tree) (λ o. Ok (mending X list k o)) m.coming (Ok m)
        (subst (λ x. Says (coming_of X.tree new.changed) (mending_comes f list c k x X.tree) (Ok m.coming)) is (comes.says X.tree s))
        (λ i. record { stale = stale i; first = first i; coming = record { outcome = coming_of X.tree new.changed m.coming; own = X.own; searches = X.searches } });
    fits = comes.fits;
  }

  -- a stop is that of what comes of them
  pub mended_exit : {stop : Stop} {result : Result MendingBeside Stop} → Comes old new (λ T D. mending_comes f list c k b T) (Err stop) → IsErrAnd result (λ e. e ≡ stop)
      → ComesMended old new (λ X. Unit {0}) (λ X. mending_with X f list (c, k)) result
  unfolding mending_with
  mended_exit {stop} {result} comes err = record {
    says = λ X s known.
        stopped (mending_beside X new.changed) (mending_with X f list (c, k)) stop result err
        (stop_says (coming_of X.tree new.changed) (mending_beside X new.changed) (mending_comes f list c k (is_some list || is_first k.version) X.tree) (λ o. Ok (mending X list k o)) stop
        (subst (λ x. Says (coming_of X.tree new.changed) (mending_comes f list c k x X.tree) (Err stop)) is (comes.says X.tree s)));
    fits = no_ok _ _ result err;
  }

-- a mending that writes no node leaves the tree
pub stays_unwritten : (X : Searching) (f : ℕ) → IfOk (mended_search X f) (λ m. StaysUnwritten X.tree m.coming.outcome)
unfolding mended_search mending_with
stays_unwritten X f =
    let Quiet : Mending → Type 0 = λ m. StaysUnwritten X.tree m.coming.outcome in
    if_any Quiet (list_of_any X.tree (find_search f X.searches)) _ (λ list. if_any Quiet (criteria_at X.tree f) _ (λ p.
    let changes = turned f p.0 p.1 >>= with_list X.tree f list >>= touched_if (is_some list || is_first p.1.version) X.tree f in
    if_then (Right X.tree) Quiet (changes >>= changing X.tree (replied Done)) _ (then_changing X.tree changes) (λ o right. quiet X.tree o right)))
