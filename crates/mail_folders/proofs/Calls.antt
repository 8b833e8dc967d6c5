-- Calls on a desk one after another, and what is asked of the places that are known.
use Rattle.std.proofs.Common.{◌≡◌, ◌∙◌, ◌+◌, ℕ, Bool, true, false, List, [], ◌∷◌, None, Some, Result, Ok, Err, if◌then◌else◌, ap, length, refl, subst, sym}
use Rattle.std.specs.List.{list_any}
use Rattle.std.specs.Result.{IsErrAnd}
use Rattle.pst_base.specs.Flat.{Flat}
use Rattle.mapi_values.specs.Messages.{Mes}
use Rattle.mapi_values.specs.Values.{Val}
use Rattle.mail_tree.specs.mail_objects.Forms.{Ctx}
use Rattle.mail_tree.specs.declared.places.FolderPlace.{FolderPlace}
use Rattle.mail_tree.specs.Tree.{Tree, object_at}
use Rattle.mail_tree.specs.Changing.{Answer, Changed, ◌>>=◌, add_shown, as_message, associated, contents, context_at, drop_shown, hierarchy, message_at, nothing, now_at, put_shown, table_at}
use Rattle.mail_tree.specs.Places.{is_child}
use Rattle.mail_tree.specs.Settling.{counted, message_ids, mirrored, one_if_unread, settled, table_as_is, unread_among, with_context}
use Rattle.mail_tree.specs.Values.{with_counts}
use Rattle.mail_tree.specs.Folders.{Outcome, folder_in, moved_between, unless_named, unless_plain}
use Rattle.mail_tree.specs.Ids.{is_taken}
use Rattle.mail_draft.specs.declared.coming.Coming.{Coming}
use Rattle.mail_draft.specs.declared.stop.Stop.{Stop}
use Rattle.mail_draft.specs.Answers.{IsNoMatter, IsRefusal, Says}
use Rattle.mail_draft.specs.Desks.{Comes, coming_of}
use Rattle.mail_draft.specs.Sight.{Answers, Changes, IsAbout, Sight}
use Rattle.mail_draft.proofs.DeskCalls.{changes_at, comes_as}
use Rattle.mail_folders.specs.Pieces.{both_plain_in, has_associated_in, plain_in, with_parent}
use Rattle.mail_folders.proofs.Steps.{from_both, from_plain, now_nothing, regroup}

-- what is said of each tree with the places that are known
pub asked : {A X Y : Type 0} {desk : Sight A} {places : List FolderPlace} {view : Y → X} {result : Result Y Stop} (step : Tree → Answer X)
    → IsAbout desk (λ T. T.places ≡ places) → ((T : Tree) → T.places ≡ places → Says view (step T) result) → Answers desk view (λ T D. step T) result
asked step known said = record { says = λ T s. said T (known T s) }

-- what a line comes to by steps that are the same of the trees that are shown
pub comes_known : {A : Type 0} {old new : Sight A} {P : Tree → Type 0} {step step' : Tree → Changed → Answer Outcome} {result : Result Coming Stop}
    → IsAbout old P → ((T : Tree) → P T → (D : Changed) → step T D ≡ step' T D) → Comes old new step result → Comes old new step' result
comes_known {old = old} {new = new} {result = result} known same a = record {
  says = λ T s. subst (λ (answer : Answer Outcome). Says (coming_of T new.changed) answer result) (same T (known T s) old.changed) (a.says T s);
  fits = a.fits;
}

-- steps grouped from the right
pub comes_regrouped : {A B C : Type 0} {old new : Sight A} {result : Result Coming Stop} (step : Tree → Changed → Answer B) (f : Tree → Changed → B → Answer C) (h : Tree → Changed → C → Answer Outcome)
    → Comes old new (λ T D. (step T D >>= f T D) >>= h T D) result → Comes old new (λ T D. step T D >>= λ x. f T D x >>= h T D) result
comes_regrouped {old = old} {new = new} {result = result} step f h a = record {
  says = λ T s. regroup (coming_of T new.changed) (step T old.changed) (f T old.changed) (h T old.changed) result (a.says T s);
  fits = a.fits;
}

ungroup : {A B C D : Type 0} (view : D → C) (answer : Answer A) (f : A → Answer B) (g : B → Answer C) (result : Result D Stop)
    → Says view (answer >>= λ x. f x >>= g) result → Says view ((answer >>= f) >>= g) result
ungroup view (Ok x) f g result said = said
ungroup view (Err e) f g result said = said

-- and from the left
pub comes_ungrouped : {A B C : Type 0} {old new : Sight A} {result : Result Coming Stop} (step : Tree → Changed → Answer B) (f : Tree → Changed → B → Answer C) (h : Tree → Changed → C → Answer Outcome)
    → Comes old new (λ T D. step T D >>= λ x. f T D x >>= h T D) result → Comes old new (λ T D. (step T D >>= f T D) >>= h T D) result
comes_ungrouped {old = old} {new = new} {result = result} step f h a = record {
  says = λ T s. ungroup (coming_of T new.changed) (step T old.changed) (f T old.changed) (h T old.changed) result (a.says T s);
  fits = a.fits;
}

-- what follows a plain folder
pub comes_plain : {A : Type 0} {old new : Sight A} {result : Result Coming Stop} (f : ℕ) (g : Tree → FolderPlace → Answer Outcome)
    → Comes old new (λ T D. plain_in T f >>= g T) result → Comes old new (λ T D. folder_in T f >>= λ p. unless_plain p >>= λ u. g T p) result
comes_plain {result = result} f g a = comes_as (λ T D view said. from_plain view T f (g T) result said) a

-- and two of them
pub comes_both : {A : Type 0} {old new : Sight A} {result : Result Coming Stop} (f h : ℕ) (g : Tree → FolderPlace → Answer Outcome)
    → Comes old new (λ T D. both_plain_in T f h >>= g T) result → Comes old new (λ T D. folder_in T f >>= λ p. folder_in T h >>= λ q. unless_plain p >>= λ u. unless_plain q >>= λ v. g T p) result
comes_both {result = result} f h g a = comes_as (λ T D view said. from_both view T f h (g T) result said) a

-- a test that decides which of two steps is made
pub comes_if : {A : Type 0} {old new : Sight A} {result : Result Coming Stop} (b : Bool) (one other : Tree → Changed → Answer Outcome) → b ≡ true
    → Comes old new one result → Comes old new (λ T D. if b then one T D else other T D) result
comes_if b one other e a = record { says = λ T s. rw e (a.says T s); fits = a.fits }

pub comes_else : {A : Type 0} {old new : Sight A} {result : Result Coming Stop} (b : Bool) (one other : Tree → Changed → Answer Outcome) → b ≡ false
    → Comes old new other result → Comes old new (λ T D. if b then one T D else other T D) result
comes_else b one other e a = record { says = λ T s. rw e (a.says T s); fits = a.fits }

-- the same at two equal things
pub changes_at2 : {A X Y R : Type 0} {old new : Sight A} (step : X → Y → Tree → Changed → Answer Changed) {x x' : X} {y y' : Y} {result : Result R Stop}
    → x ≡ x' → y ≡ y' → Changes old new (step x y) result → Changes old new (step x' y') result
changes_at2 step {x} {x'} {y} {y'} e e' a = changes_at (step x') e' (changes_at (λ b. step b y) e a)

-- the folders that are asked are those of the tree
pub named_among : {A : Type 0} {desk : Sight A} {name name' ids : List ℕ} {result : Result (Unit {0}) Stop} (list : Tree → List ℕ) → name ≡ name' → IsAbout desk (λ T. ids ≡ list T)
    → Answers desk (λ u. u) (λ T D. unless_named T name ids) result → Answers desk (λ u. u) (λ T D. unless_named T name' (list T)) result
named_among {name' = name'} {ids = ids} {result = result} list e known a = record {
  says = λ T s. subst (λ (is : List ℕ). Says (λ u. u) (unless_named T name' is) result) (known T s)
      (subst (λ (n : List ℕ). Says (λ u. u) (unless_named T n ids) result) e (a.says T s));
}

-- a call's stop, and what it gives, are those of its caller
pub stops_as : {A B D : Type 0} (view : B → A) (view' : D → A) (answer : Answer A) (stop : Stop) (result : Result D Stop) → Says view answer (Err stop) → IsErrAnd result (λ e. e ≡ stop) → Says view' answer result
stops_as view view' (Ok x) stop (Ok y) first is = absurd is
stops_as view view' (Ok x) stop (Err e) first is = subst IsNoMatter (sym is) first
stops_as view view' (Err None) stop result first is = tt
stops_as view view' (Err (Some refusal)) stop (Ok y) first is = absurd is
stops_as view view' (Err (Some refusal)) stop (Err e) first is = subst (IsRefusal refusal) (sym is) first

pub said_as : {A B D : Type 0} (view : B → A) (view' : D → A) (answer : Answer A) (y : B) (y' : D) → view' y' ≡ view y → Says view answer (Ok y) → Says view' answer (Ok y')
said_as view view' (Ok x) y y' e first = e ∙ first
said_as view view' (Err None) y y' e first = tt
said_as view view' (Err (Some refusal)) y y' e first = absurd first

pub changes_stop : {A Y W : Type 0} {old new : Sight A} (view : Y → Changed) {step : Tree → Changed → Answer Changed} {D : Changed} (stop : Stop) {result : Result W Stop} → D ≡ old.changed
    → ((T : Tree) → old.shows T → Says view (step T D) (Err stop)) → IsErrAnd result (λ e. e ≡ stop) → Changes old new step result
changes_stop {old = old} {new = new} view {step = step} stop {result = result} e says is = record {
  says = λ T s. stops_as view (λ w. new.changed) (step T old.changed) stop result (subst (λ (D : Changed). Says view (step T D) (Err stop)) e (says T s)) is;
}

pub changes_told : {A Y W : Type 0} {old new : Sight A} (view : Y → Changed) {step : Tree → Changed → Answer Changed} {D : Changed} {y : Y} {w : W} → D ≡ old.changed → new.changed ≡ view y
    → ((T : Tree) → old.shows T → Says view (step T D) (Ok y)) → Changes old new step (Ok w)
changes_told {old = old} {new = new} view {step = step} {y = y} {w = w} e told says = record {
  says = λ T s. said_as view (λ w. new.changed) (step T old.changed) y w told (subst (λ (D : Changed). Says view (step T D) (Ok y)) e (says T s));
}

-- where no node stands, none has rows
pub associated_missing : (T : Tree) (f : ℕ) → false ≡ is_taken T (associated f) → Says (λ b. b) (has_associated_in T f) (Ok false)
unfolding has_associated_in
associated_missing T f e = rw (← e) refl

-- a message that is there before anything is changed is one of the tree
pub stands_there : (T : Tree) (m : ℕ) (M : Mes) → as_message (now_at T nothing m) ≡ Some M → as_message (object_at T m) ≡ Some M
stands_there T m M here = sym (ap as_message (now_nothing T m)) ∙ here

-- a node of properties, by its parts
pub context_is : (c : Ctx) {parent : ℕ} {props : List Val} {kept : List Flat} → c.parent ≡ parent → c.props ≡ props → c.kept ≡ kept → c ≡ record { parent = parent; props = props; kept = kept }
context_is c {parent = parent} {props = props} e e' e'' =
    ap (λ (q : ℕ). record c { parent = q }) e ∙ ap (λ (ps : List Val). record c { parent = parent; props = ps }) e' ∙ ap (λ (k : List Flat). record c { parent = parent; props = props; kept = k }) e''

-- what comes of the same first step and of steps that are the same
bind_same : {A B : Type 0} (answer : Answer A) (f g : A → Answer B) → ((x : A) → f x ≡ g x) → (answer >>= f) ≡ (answer >>= g)
bind_same (Ok x) f g same = same x
bind_same (Err e) f g same = refl

same_unread : (T : Tree) (places : List FolderPlace) (D : Changed) (ids : List ℕ) → unread_among (record T { places = places }) D ids ≡ unread_among T D ids
same_unread T places D [] = refl
same_unread T places D (m ∷ ms) = ap (λ (rest : Answer ℕ). message_at T D m >>= λ M. rest >>= λ n. Ok (one_if_unread M.props + n)) (same_unread T places D ms)

same_settled : (T : Tree) (places after : List FolderPlace) (f : ℕ) (D : Changed) → settled (record T { places = places }) after f D ≡ settled T after f D
unfolding settled counted mirrored table_as_is put_shown
same_settled T places after f D =
    ap (λ (counted : Answer Changed). counted >>= mirrored T f)
    (bind_same (context_at T D f) _ _ (λ c. bind_same (table_at T D (contents f)) _ _ (λ t.
    ap (λ (count : Answer ℕ). count >>= λ unread. Ok (with_context f c (with_counts (length (message_ids t.table)) unread (list_any (is_child f) after) c.props) D)) (same_unread T places D (message_ids t.table)))))

-- a folder's move asks nothing of where folders stood before
pub same_moved : (T : Tree) (places after : List FolderPlace) (f from to : ℕ) → moved_between (record T { places = places }) f from to after ≡ moved_between T f from to after
unfolding moved_between drop_shown add_shown
same_moved T places after f from to =
    bind_same (context_at T nothing f) _ _ (λ c. bind_same (drop_shown T (hierarchy from) f (with_parent f c to nothing)) _ _ (λ D.
    ap (λ (half : Answer Changed). half >>= settled (record T { places = places }) after to) (bind_same (add_shown T (hierarchy to) f c.props D) _ _ (same_settled T places after from))
    ∙ bind_same (add_shown T (hierarchy to) f c.props D >>= settled T after from) _ _ (same_settled T places after to)))
