-- What each gives, joined one after the other.
use Rattle.std.proofs.Common.{◌≡◌, ◌∙◌, ℕ, suc, ◌<◌, ◌≤◌, ◌+◌, ◌&&◌, sym, false, List, [], ◌∷◌, ◌++◌, append_assoc, length, drop, get_or, drop-cons, add-one, None, Some, Result, Ok, Err, refl, ap, subst, Bool, true, if◌then◌else◌}
use Rattle.std.specs.Result.{IsErrAnd}
use Rattle.std.proofs.lemmas.List.{drop_all, append-nil}
use Rattle.mapi_values.specs.Messages.{Mes}
use Rattle.mail_tree.specs.declared.places.FolderPlace.{FolderPlace}
use Rattle.mail_tree.specs.Changing.{Answer, ◌>>=◌, contents, message_at, nothing, now_at, table_at}
use Rattle.mail_tree.specs.Places.{is_plain, is_within, place_id}
use Rattle.mail_tree.specs.Settling.{message_ids}
use Rattle.mail_tree.specs.Tree.{Tree}
use Rattle.mail_objects.specs.Forms.{Tbl}
use Rattle.mail_draft.specs.declared.stop.Stop.{Stop}
use Rattle.mail_draft.specs.Answers.{Says}
use Rattle.mail_draft.specs.Listed.{listed_in}
use Rattle.mail_draft.proofs.Passes.{stop_says}
use Rattle.mail_draft.proofs.SettleLaws.{from_listed}
use Rattle.mail_searches.specs.Relisting.{Touch}
use Rattle.mail_searches.specs.Touching.{carried, messages_below}
use Rattle.search_results.specs.Moving.{carried_in, carried_one, joined}

-- a stop that is passed on
pub stopped : {A B : Type 0} (view : B → A) (answer : Answer A) (stop : Stop) (result : Result B Stop) → IsErrAnd result (λ e. e ≡ stop) → Says view answer (Err stop) → Says view answer result
stopped view answer stop (Ok y) h says = absurd h
stopped view answer stop (Err e) h says = rw h says

module _ {A B D : Type 0} (view : D → List B) (f : A → Answer (List B)) where
  goes : (one rest : Answer (List B)) (ys out : List B) (result : Result D Stop) → Says (λ b. b) one (Ok ys)
      → Says view (rest >>= λ more. Ok ((out ++ ys) ++ more)) result → Says view ((one >>= λ zs. rest >>= λ more. Ok (zs ++ more)) >>= λ more. Ok (out ++ more)) result
  goes (Ok zs) (Ok more) ys out result first after = subst (λ w. Says view (Ok w) result) (append_assoc out ys more ∙ ap (λ w. out ++ (w ++ more)) first) after
  goes (Ok zs) (Err e) ys out result first after = after
  goes (Err None) rest ys out result first after = tt
  goes (Err (Some refusal)) rest ys out result first after = absurd first

  -- at an element
  pub joined_on : (xs : List A) (i : ℕ) (d : A) (ys out out' : List B) (result : Result D Stop) → i < length xs → out' ≡ out ++ ys
      → Says (λ b. b) (f (get_or xs i d)) (Ok ys) → Says view (joined f (drop (i + 1) xs) >>= λ more. Ok (out' ++ more)) result
      → Says view (joined f (drop i xs) >>= λ more. Ok (out ++ more)) result
  joined_on xs i d ys out out' result h e first after =
      let moved = subst (λ w. Says view (joined f (drop (suc i) xs) >>= λ more. Ok (w ++ more)) result) e (rw add-one at after) in
      rw (drop-cons xs i d) (goes (f (get_or xs i d)) (joined f (drop (suc i) xs)) ys out result first moved)

  -- it stops with what one stops with
  pub joined_stops : (xs : List A) (i : ℕ) (d : A) (out : List B) (stop : Stop) → i < length xs
      → Says {A = List B} {B = List B} (λ b. b) (f (get_or xs i d)) (Err stop) → Says view (joined f (drop i xs) >>= λ more. Ok (out ++ more)) (Err stop)
  joined_stops xs i d out stop h first = rw (drop-cons xs i d) (stop_says view view _ _ stop (stop_says (λ b. b) view (f (get_or xs i d)) _ stop first))

-- all is joined
pub joined_all : {A B D : Type 0} (view : D → List B) (f : A → Answer (List B)) (xs : List A) (i : ℕ) (out : D) → length xs ≤ i → Says view (joined f (drop i xs) >>= λ more. Ok (view out ++ more)) (Ok out)
joined_all view f xs i out past = rw (drop_all i xs past) (sym (append-nil (view out)))

-- a message that stays as it is, as a list of one
abbrev pub single : Tree → ℕ → Answer (List Touch)
single T m = carried_one T m >>= λ t. Ok (t ∷ [])

pub single_says : (T : Tree) (m : ℕ) (t : Touch) → Says (λ t. t) (carried_one T m) (Ok t) → Says {A = List Touch} {B = List Touch} (λ b. b) (single T m) (Ok (t ∷ []))
single_says T m t h = pick (carried_one T m) h
  where
    pick : (a : Answer Touch) → Says (λ t. t) a (Ok t) → Says {A = List Touch} {B = List Touch} (λ b. b) (a >>= λ t. Ok (t ∷ [])) (Ok (t ∷ []))
    pick (Ok u) same = ap (λ v. v ∷ []) same
    pick (Err None) same = tt
    pick (Err (Some refusal)) same = absurd same

pub carried_joined : (T : Tree) (ms : List ℕ) → joined (single T) ms ≡ carried T ms
unfolding carried_one
carried_joined T [] = refl
carried_joined T (m ∷ ms) = line (joined (single T) ms) (carried T ms) (carried_joined T ms) (message_at T nothing m)
  where
    as_is : Mes → Touch
    as_is M = record { nid = m; old = Some M; new = Some M; anew = false }

    line : (b d : Answer (List Touch)) → b ≡ d → (a : Answer Mes) → (((a >>= λ M. Ok (as_is M)) >>= λ t. Ok (t ∷ [])) >>= λ ys. b >>= λ more. Ok (ys ++ more)) ≡ (a >>= λ M. d >>= λ ts. Ok (as_is M ∷ ts))
    line b d same (Ok M) = ap (λ (r : Answer (List Touch)). r >>= λ ts. Ok (as_is M ∷ ts)) same
    line b d same (Err e) = refl

pub below_joined : (T : Tree) (f : ℕ) (ps : List FolderPlace) → joined (carried_in T f) ps ≡ messages_below T f ps
unfolding carried_in
below_joined T f [] = refl
below_joined T f (p ∷ ps) = pick (below_joined T f ps) (is_plain p && is_within T.places f (place_id p)) (table_at T nothing (contents (place_id p)))
  where
    line : joined (carried_in T f) ps ≡ messages_below T f ps → (a : Answer Tbl) → ((a >>= λ t. carried T (message_ids t.table)) >>= λ ys. joined (carried_in T f) ps >>= λ more. Ok (ys ++ more)) ≡ (a >>= λ t. carried T (message_ids t.table) >>= λ ts. messages_below T f ps >>= λ more. Ok (ts ++ more))
    line rest (Ok t) = ap (λ (r : Answer (List Touch)). carried T (message_ids t.table) >>= λ ys. r >>= λ more. Ok (ys ++ more)) rest
    line rest (Err e) = refl

    skipped : (b d : Answer (List Touch)) → b ≡ d → (Ok [] >>= λ ys. b >>= λ more. Ok (ys ++ more)) ≡ d
    skipped (Ok x) d e = e
    skipped (Err x) d e = e

    pick : joined (carried_in T f) ps ≡ messages_below T f ps → (b : Bool) (a : Answer Tbl) → ((if b then (a >>= λ t. carried T (message_ids t.table)) else Ok []) >>= λ ys. joined (carried_in T f) ps >>= λ more. Ok (ys ++ more))
        ≡ (if b then (a >>= λ t. carried T (message_ids t.table) >>= λ ts. messages_below T f ps >>= λ more. Ok (ts ++ more)) else messages_below T f ps)
    pick rest true a = line rest a
    pick rest false a = skipped (joined (carried_in T f) ps) (messages_below T f ps) rest

-- what is said of messages one by one
pub from_single : {D : Type 0} (view : D → List Touch) (T : Tree) (ms : List ℕ) (r : Result D Stop) → Says view (joined (single T) ms) r → Says view (carried T ms) r
from_single view T ms r h = subst (λ (a : Answer (List Touch)). Says view a r) (carried_joined T ms) h

-- a folder that isn't plain is passed over
pub foreign_skipped : {D : Type 0} (view : D → List Touch) (T : Tree) (f : ℕ) (p : FolderPlace) (out : D) → is_plain p ≡ false → view out ≡ [] → Says view (carried_in T f p) (Ok out)
unfolding carried_in
foreign_skipped view T f p out foreign none = rw foreign none

-- so is one that doesn't stand within f
pub outside_skipped : {D : Type 0} (view : D → List Touch) (T : Tree) (f : ℕ) (p : FolderPlace) (places : List FolderPlace) (out : D)
    → T.places ≡ places → is_plain p ≡ true → is_within places f (place_id p) ≡ false → view out ≡ [] → Says view (carried_in T f p) (Ok out)
unfolding carried_in
outside_skipped view T f p places out same plain outside none = rw (same, plain, outside) none

-- of any other the table tells the messages
pub in_folder : {D : Type 0} (view : D → List Touch) (T : Tree) (f q : ℕ) (p : FolderPlace) (places : List FolderPlace) (r : Result D Stop)
    → T.places ≡ places → is_plain p ≡ true → is_within places f (place_id p) ≡ true → q ≡ contents (place_id p)
    → Says view (listed_in (now_at T nothing q) >>= carried T) r → Says view (carried_in T f p) r
unfolding carried_in
in_folder view T f q p places r same plain within table h =
    rw (same, plain, within) (from_listed view (now_at T nothing (contents (place_id p))) (carried T) r (subst (λ n. Says view (listed_in (now_at T nothing n) >>= carried T) r) table h))

-- what is said of a list, seen otherwise
pub listed_says : {B D : Type 0} (view : D → List B) (answer : Answer (List B)) (out : D) → Says view answer (Ok out) → Says {A = List B} {B = List B} (λ b. b) answer (Ok (view out))
listed_says view (Ok x) out h = h
listed_says view (Err None) out h = tt
listed_says view (Err (Some refusal)) out h = absurd h

-- so is what is said of a stop
pub stop_again : {A B D : Type 0} (view : B → A) (view' : D → A) (answer : Answer A) (stop : Stop) → Says view answer (Err stop) → Says view' answer (Err stop)
stop_again view view' (Ok x) stop h = h
stop_again view view' (Err None) stop h = tt
stop_again view view' (Err (Some refusal)) stop h = h

-- these are the folders
pub all_below : {D : Type 0} (view : D → List Touch) (T : Tree) (f : ℕ) {ps places : List FolderPlace} (r : Result D Stop) → ps ≡ places
    → Says view (joined (carried_in T f) ps) r → Says view (joined (carried_in T f) places) r
all_below view T f r same h = subst (λ x. Says view (joined (carried_in T f) x) r) same h
