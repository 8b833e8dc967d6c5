-- The list of a search that is built has just the messages that the search is to list.
use Rattle.std.proofs.Common.{◌≡◌, ◌∙◌, ℕ, suc, ◌%◌, ◌==◌, ◌&&◌, Bool, true, false, List, [], ◌∷◌, filter, map, Option, None, Some, is_some, refl, sym, subst, ap, inl, inr, arith, if◌then◌else◌, ◌||◌}
use Rattle.std.specs.Prelude.{nat_le}
use Rattle.std.proofs.lemmas.Bool.{and_parts, cases_Bool, cases_eq, eq-eqb, eqb-true, false≢true, ne_eqb}
use Rattle.std.proofs.lemmas.Option.{none-some, same_Some}
use Rattle.mapi_values.specs.Keyed.{find_key, keys_ascend}
use Rattle.mapi_values.specs.Messages.{Mes}
use Rattle.mapi_values.specs.Tables.{find_row, mirror, put_row}
use Rattle.mapi_values.specs.Values.{Val}
use Rattle.mapi_values.specs.declared.column.Column.{Column}
use Rattle.mapi_values.proofs.KeyedLaws.{put-ascends}
use Rattle.mail_objects.specs.Forms.{Tbl}
use Rattle.mail_objects.specs.declared.object.Object.{Object}
use Rattle.mail_objects.specs.declared.object.Object.TheVariants.{Bare, Context, Message, Table}
use Rattle.mail_tree.specs.declared.places.FolderPlace.{FolderPlace}
use Rattle.mail_tree.specs.Changing.{◌>>=◌, as_message, contents, nothing, now_at}
use Rattle.mail_tree.specs.Places.{find_place, is_plain, place_id}
use Rattle.mail_tree.specs.Settling.{is_message_row, message_ids}
use Rattle.mail_tree.specs.Tree.{Tree, object_at}
use Rattle.mail_tree.specs.Whole.{Fine, IsWhole}
use Rattle.mail_tree.proofs.AfterTree.{now_nothing}
use Rattle.mail_tree.proofs.FineLaws.{after_message, after_table, fine_then, fine_weaker}
use Rattle.mail_tree.proofs.KeyedFinds.{below, find-put, find-put_other, find-put_same}
use Rattle.mail_tree.proofs.KindsOfPuts.{beside_kind, same_table}
use Rattle.mail_tree.proofs.Nearly.{message_id, table_of}
use Rattle.restr_eval.specs.Eval.{eval, holds_of, subject}
use Rattle.search_obj.specs.Scope.{is_among}
use Rattle.mail_searches.specs.Building.{built_rows, found_among, found_below, with_found}
use Rattle.mail_searches.specs.Searches.{Search, in_scope, is_listed, is_plain_at, lists, row_ids}
use Rattle.mail_searches.specs.Searching.{Each}
use Rattle.search_lists.specs.Laws.{MirrorsMessage}
use Rattle.search_lists.proofs.ListLaws.{rows-are}

abbrev pub Rows : Type 0
Rows = List (ℕ × List Val)

abbrev pub ascend : Rows → Bool
ascend rows = keys_ascend (λ r. r.0) 0 rows

abbrev pub has : ℕ → Rows → Bool
has k rows = is_some (find_row k rows)

-- ---- tests

or-false : (b : Bool) → (b || false) ≡ b
or-false true = refl
or-false false = refl

merged : (a b c l : Bool) → ((a || (b && l)) || (c && l)) ≡ (a || ((b || c) && l))
merged true b c l = refl
merged false true c true = refl
merged false true true false = refl
merged false true false false = refl
merged false false c l = refl

-- ---- each element of a list that ascends is found in it

abbrev pub EachFound : {X : Type 0} → (X → ℕ) → List X → List X → Type 0
EachFound key zs xs = Each (λ x. find_key key (key x) zs ≡ Some x) xs

behind : {X : Type 0} (key : X → ℕ) (x : X) (zs xs : List X) → keys_ascend key (suc (key x)) zs ≡ true → EachFound key zs xs → EachFound key (x ∷ zs) xs
behind key x zs [] a each = tt
behind key x zs (y ∷ ys) a each =
    let other : key x ≡ key y → ⊥ = λ e. none-some y (sym (below key (suc (key x)) (key y) zs a (omega arith)) ∙ each.0) in
    (rw (ne_eqb (key x) (key y) other) each.0, behind key x zs ys a each.1)

pub each-found : {X : Type 0} (key : X → ℕ) (low : ℕ) (xs : List X) → keys_ascend key low xs ≡ true → EachFound key xs xs
each-found key low [] a = tt
each-found key low (x ∷ xs) a =
    let p = and_parts (nat_le low (key x)) (keys_ascend key (suc (key x)) xs) a in
    (rw (eq-eqb (key x) (key x) refl) refl, behind key x xs xs p.1 (each-found key (suc (key x)) xs p.1))

-- ---- the messages of a table

first-in : (i : ℕ) (is : List ℕ) → is_among (i ∷ is) i ≡ true
first-in i is = rw (eq-eqb i i refl) refl

later-in : (i k : ℕ) (is : List ℕ) → is_among is k ≡ true → is_among (i ∷ is) k ≡ true
later-in i k is e = by-first (i == k) (is_among is k) e
  where
    by-first : (b c : Bool) → c ≡ true → (b || c) ≡ true
    by-first true c e = refl
    by-first false c e = e

-- an id is among those of messages where a row has it and it is that of a message
among-ids : (rows : Rows) (k : ℕ) → is_among (map (λ r. r.0) (filter is_message_row rows)) k ≡ (has k rows && (k % 32 == 4))
among-ids [] k = refl
among-ids (r ∷ rows) k = elim (cases_Bool (r.0 == k)) [
  | inl t ↦ let same : r.0 ≡ k = eqb-true r.0 k t in here (r.0 % 32 == 4) (ap (λ x. x % 32 == 4) (sym same)) t (among-ids rows k)
  | inr f ↦ there (r.0 % 32 == 4) f (among-ids rows k)
]
  where
    falls : (b c d : Bool) → b ≡ (d && c) → c ≡ false → b ≡ false
    falls b true d e n = cc
    falls b false true e n = e
    falls b false false e n = e

    here : (b : Bool) → (k % 32 == 4) ≡ b → (r.0 == k) ≡ true → is_among (map (λ r. r.0) (filter is_message_row rows)) k ≡ (has k rows && (k % 32 == 4))
        → is_among (map (λ r. r.0) (if b then r ∷ filter is_message_row rows else filter is_message_row rows)) k ≡ (has k (r ∷ rows) && (k % 32 == 4))
    here true e t same = rw (t, e) refl
    here false e t same = rw (t, e) (falls (is_among (map (λ r. r.0) (filter is_message_row rows)) k) (k % 32 == 4) (has k rows) same e)

    there : (b : Bool) → (r.0 == k) ≡ false → is_among (map (λ r. r.0) (filter is_message_row rows)) k ≡ (has k rows && (k % 32 == 4))
        → is_among (map (λ r. r.0) (if b then r ∷ filter is_message_row rows else filter is_message_row rows)) k ≡ (has k (r ∷ rows) && (k % 32 == 4))
    there true f same = rw (f, same) refl
    there false f same = rw (f, same) refl

module _ (T : Tree) (s : Search) (columns : List Column) (w : IsWhole T) where
  -- the search is to list the message
  abbrev listed : ℕ → Bool
  listed k = is_listed T.places s (as_message (object_at T k))

  -- each row of a message shows it
  abbrev AllShown : Rows → Type 0
  AllShown rows = (k : ℕ) → MirrorsMessage columns rows k (as_message (object_at T k))

  put-shows : (m : ℕ) (M : Mes) (rows : Rows) → object_at T m ≡ Some (Message M) → AllShown rows → AllShown (put_row m (mirror columns M.props) rows)
  put-shows m M rows is shown k N e there = elim (cases_eq k m) [
    | inl same ↦
        let one : M ≡ N = same_Some M N (sym (ap as_message is) ∙ ap (λ x. as_message (object_at T x)) (sym same) ∙ e) in
        ap (λ x. find_row x (put_row m (mirror columns M.props) rows)) same ∙ find-put_same (λ r. r.0) (m, mirror columns M.props) rows ∙ ap (λ (x : Mes). Some (m, mirror columns x.props)) one ∙ ap (λ x. Some (x, mirror columns N.props)) (sym same)
    | inr other ↦
        let kept = find-put_other (λ r. r.0) k (m, mirror columns M.props) rows other in
        kept ∙ shown k N e (ap is_some (sym kept) ∙ there)
  ]

  -- rows after one message was looked at
  record AreWith (one : ℕ → Bool) (rows rows' : Rows) : Type 0 where
    ascend_still : ascend rows' ≡ true
    show_still : AllShown rows → AllShown rows'
    have : (k : ℕ) → has k rows' ≡ (has k rows || (one k && listed k))

  one-row : (m : ℕ) (M : Mes) (rows : Rows) → object_at T m ≡ Some (Message M) → in_scope T.places s M.folder ≡ true → ascend rows ≡ true → AreWith (λ k. m == k) rows (with_found s columns m M rows)
  one-row m M rows is scope a = elim (cases_Bool (eval s.restriction (subject M))) [
    | inl holds ↦
        let there : listed m ≡ true = rw (is, scope, holds) refl in
        record {
          ascend_still = rw holds (put-ascends (λ r. r.0) 0 (m, mirror columns M.props) rows (omega arith) a);
          show_still = λ shown. rw holds (put-shows m M rows is shown);
          have = λ k. rw holds (ap is_some (find-put (λ r. r.0) k (m, mirror columns M.props) rows) ∙ put-one k (m == k) refl there);
        }
    | inr fails ↦
        let gone : listed m ≡ false = rw (is, scope, fails) refl in
        record {
          ascend_still = rw fails a;
          show_still = λ shown. rw fails shown;
          have = λ k. rw fails (left-one k (m == k) refl gone);
        }
  ]
    where
      either-way : (b : Bool) → true ≡ (b || true)
      either-way true = refl
      either-way false = refl

      put-one : (k : ℕ) (b : Bool) → (m == k) ≡ b → listed m ≡ true → is_some (if b then Some (m, mirror columns M.props) else find_row k rows) ≡ (has k rows || (b && listed k))
      put-one k true e there = either-way (has k rows) ∙ ap (λ l. has k rows || l) (sym there ∙ ap listed (eqb-true m k e))
      put-one k false e there = sym (or-false (has k rows))

      left-one : (k : ℕ) (b : Bool) → (m == k) ≡ b → listed m ≡ false → has k rows ≡ (has k rows || (b && listed k))
      left-one k true e gone = sym (or-false (has k rows)) ∙ ap (λ l. has k rows || l) (sym gone ∙ ap listed (eqb-true m k e))
      left-one k false e gone = sym (or-false (has k rows))

  -- messages that stand in this folder
  abbrev AreHeld : ℕ → List ℕ → Type 0
  AreHeld f ms = (m : ℕ) → is_among ms m ≡ true → (M : Mes) × (object_at T m ≡ Some (Message M)) × (M.folder ≡ f)

  rows-among : (f : ℕ) → in_scope T.places s f ≡ true → (ms : List ℕ) → AreHeld f ms → (rows : Rows) → ascend rows ≡ true → Fine (found_among T s columns ms rows) (AreWith (is_among ms) rows)
  rows-among f scope [] held rows a = record { ascend_still = a; show_still = λ shown. shown; have = λ k. sym (or-false (has k rows)) }
  rows-among f scope (m ∷ ms) held rows a =
      let h = held m (first-in m ms) in
      let now : now_at T nothing m ≡ Some (Message h.0) = ap (λ at. at m) (now_nothing T) ∙ h.1 in
      let one = one-row m h.0 rows h.1 (ap (in_scope T.places s) h.2 ∙ scope) a in
      after_message (AreWith (is_among (m ∷ ms)) rows) T nothing m h.0 (λ M. found_among T s columns ms (with_found s columns m M rows)) now
      (fine_weaker (AreWith (is_among ms) (with_found s columns m h.0 rows)) (AreWith (is_among (m ∷ ms)) rows) (found_among T s columns ms (with_found s columns m h.0 rows))
      (rows-among f scope ms (λ k e. held k (later-in m k ms e)) (with_found s columns m h.0 rows) one.ascend_still)
      (λ rows' p. record {
        ascend_still = p.ascend_still;
        show_still = λ shown. p.show_still (one.show_still shown);
        have = λ k. p.have k ∙ ap (λ b. b || (is_among ms k && listed k)) (one.have k) ∙ merged (has k rows) (m == k) (is_among ms k) (listed k);
      }))

  -- the message stands in one of these folders
  abbrev stands_in : List FolderPlace → ℕ → Bool
  stands_in ps k = holds_of (λ M. is_some (find_place M.folder ps)) (as_message (object_at T k))

  is-message : (k : ℕ) (M : Mes) → as_message (object_at T k) ≡ Some M → object_at T k ≡ Some (Message M)
  is-message k M e = back (object_at T k) e
    where
      back : (o : Option Object) → as_message o ≡ Some M → o ≡ Some (Message M)
      back None e = cc
      back (Some (Message N)) e = cc
      back (Some (Context c)) e = cc
      back (Some (Table t)) e = cc
      back (Some (Bare parent)) e = cc

  -- the messages in a plain folder's table are those that stand in it
  module _ (f : ℕ) (p : FolderPlace) (t : Tbl) (placed : find_place f T.places ≡ Some p) (plain : is_plain p ≡ true) (is : object_at T (contents f) ≡ Some (Table t)) where
    abbrev ids : List ℕ
    ids = message_ids t.table

    all-held : AreHeld f ids
    all-held m e =
        let q = and_parts (has m t.table.rows) (m % 32 == 4) (sym (among-ids t.table.rows m) ∙ e) in
        w.objects.listed f p t m placed plain is q.0 (eqb-true (m % 32) 4 q.1)

    -- one that stands in it is among them
    held-among : (k : ℕ) (M : Mes) → object_at T k ≡ Some (Message M) → M.folder ≡ f → is_among ids k ≡ true
    held-among k M at folder =
        let h = w.objects.held k M at in
        let row = h.3 in
        let same : row.0 ≡ t = same_table row.0 t (sym row.1 ∙ ap (λ x. object_at T (contents x)) folder ∙ is) in
        let there : has k t.table.rows ≡ true = subst (λ x. has k x.table.rows ≡ true) same row.2 in
        let four : (k % 32 == 4) ≡ true = eq-eqb (k % 32) 4 (message_id k M (w.objects.typed k (Message M) at)).0 in
        among-ids t.table.rows k ∙ rw (there, four) refl

    -- and one that doesn't isn't
    among-held : (k : ℕ) (b : Bool) → is_among ids k ≡ b → (o : Option Mes) → as_message (object_at T k) ≡ o → b ≡ holds_of (λ M. f == M.folder) o
    among-held k true e None none = let h = all-held k e in absurd (none-some h.0 (sym none ∙ ap as_message h.1))
    among-held k true e (Some M) some =
        let h = all-held k e in
        let same : M ≡ h.0 = same_Some M h.0 (sym some ∙ ap as_message h.1) in
        sym (eq-eqb f M.folder (sym (ap (λ x. x.folder) same ∙ h.2)))
    among-held k false e None none = refl
    among-held k false e (Some M) some = elim (cases_Bool (f == M.folder)) [
      | inl same ↦ absurd (false≢true (sym e ∙ held-among k M (is-message k M some) (sym (eqb-true f M.folder same))))
      | inr other ↦ sym other
    ]

    stands-here : (ps : List FolderPlace) (k : ℕ) → place_id p ≡ f → stands_in (p ∷ ps) k ≡ (is_among ids k || stands_in ps k)
    stands-here ps k id = split (as_message (object_at T k)) refl
      where
        by-one : (b : Bool) (x : Option FolderPlace) → is_some (if b then Some p else x) ≡ (b || is_some x)
        by-one true x = refl
        by-one false x = refl

        split : (o : Option Mes) → as_message (object_at T k) ≡ o → holds_of (λ M. is_some (find_place M.folder (p ∷ ps))) o ≡ (is_among ids k || holds_of (λ M. is_some (find_place M.folder ps)) o)
        split None e = rw (among-held k (is_among ids k) refl None e) refl
        split (Some M) e = rw (among-held k (is_among ids k) refl (Some M) e) (by-one (place_id p == M.folder) (find_place M.folder ps) ∙ ap (λ x. (x == M.folder) || is_some (find_place M.folder ps)) id)

  -- a search lists nothing in a folder in which it doesn't look
  stands-apart : (p : FolderPlace) (ps : List FolderPlace) (k : ℕ) → in_scope T.places s (place_id p) ≡ false → (stands_in ps k && listed k) ≡ (stands_in (p ∷ ps) k && listed k)
  stands-apart p ps k scope = split (as_message (object_at T k))
    where
      by-one : (M : Mes) (b : Bool) → (place_id p == M.folder) ≡ b → (is_some (find_place M.folder ps) && is_listed T.places s (Some M)) ≡ (is_some (if b then Some p else find_place M.folder ps) && is_listed T.places s (Some M))
      by-one M true e = let out : in_scope T.places s M.folder ≡ false = ap (in_scope T.places s) (sym (eqb-true (place_id p) M.folder e)) ∙ scope in rw out (never (is_some (find_place M.folder ps)))
        where
          never : (b : Bool) → (b && false) ≡ false
          never true = refl
          never false = refl
      by-one M false e = refl

      split : (o : Option Mes) → (holds_of (λ M. is_some (find_place M.folder ps)) o && is_listed T.places s o) ≡ (holds_of (λ M. is_some (find_place M.folder (p ∷ ps))) o && is_listed T.places s o)
      split None = refl
      split (Some M) = by-one M (place_id p == M.folder) refl

  plain-scope : (f : ℕ) → in_scope T.places s f ≡ true → is_plain_at T.places f ≡ true
  plain-scope f e = (and_parts (is_plain_at T.places f) _ e).0

  rows-below : (ps : List FolderPlace) → EachFound place_id T.places ps → (rows : Rows) → ascend rows ≡ true → Fine (found_below T s columns ps rows) (AreWith (stands_in ps) rows)
  rows-below [] each rows a = record { ascend_still = a; show_still = λ shown. shown; have = λ k. nowhere k (as_message (object_at T k)) }
    where
      nowhere : (k : ℕ) (o : Option Mes) → has k rows ≡ (has k rows || (holds_of (λ M. is_some (find_place M.folder [])) o && is_listed T.places s o))
      nowhere k None = sym (or-false (has k rows))
      nowhere k (Some M) = sym (or-false (has k rows))
  rows-below (p ∷ ps) each rows a = elim (cases_Bool (in_scope T.places s (place_id p))) [
    | inl scope ↦ rw scope (
        let f = place_id p in
        let plain : is_plain p ≡ true = ap (holds_of is_plain) (sym each.0) ∙ plain-scope f scope in
        let kind = beside_kind f 14 (omega arith) in
        let table = table_of (contents f) (object_at T (contents f)) (λ x e. w.objects.typed (contents f) x e) (inr (inl kind)) (w.objects.tables f p each.0 plain).1 in
        let t = table.0 in
        let now : now_at T nothing (contents f) ≡ Some (Table t) = ap (λ at. at (contents f)) (now_nothing T) ∙ table.1 in
        after_table (AreWith (stands_in (p ∷ ps)) rows) T nothing (contents f) t (λ u. found_among T s columns (message_ids u.table) rows >>= found_below T s columns ps) now
        (fine_then (AreWith (is_among (message_ids t.table)) rows) (AreWith (stands_in (p ∷ ps)) rows) (found_among T s columns (message_ids t.table) rows) (found_below T s columns ps)
        (rows-among f scope (message_ids t.table) (all-held f p t each.0 plain table.1) rows a)
        (λ rows1 one. fine_weaker (AreWith (stands_in ps) rows1) (AreWith (stands_in (p ∷ ps)) rows) (found_below T s columns ps rows1) (rows-below ps each.1 rows1 one.ascend_still)
        (λ rows2 two. record {
          ascend_still = two.ascend_still;
          show_still = λ shown. two.show_still (one.show_still shown);
          have = λ k. two.have k ∙ ap (λ b. b || (stands_in ps k && listed k)) (one.have k) ∙ merged (has k rows) (is_among (message_ids t.table) k) (stands_in ps k) (listed k)
              ∙ ap (λ b. has k rows || (b && listed k)) (sym (stands-here f p t each.0 plain table.1 ps k refl));
        })))
        )
    | inr scope ↦ rw scope (fine_weaker (AreWith (stands_in ps) rows) (AreWith (stands_in (p ∷ ps)) rows) (found_below T s columns ps rows) (rows-below ps each.1 rows a)
        (λ rows1 one. record { ascend_still = one.ascend_still; show_still = one.show_still; have = λ k. one.have k ∙ ap (λ b. has k rows || b) (stands-apart p ps k scope) }))
  ]

  -- each message stands in a folder
  all-stand : (k : ℕ) → (stands_in T.places k && listed k) ≡ listed k
  all-stand k = split (as_message (object_at T k)) refl
    where
      split : (o : Option Mes) → as_message (object_at T k) ≡ o → (holds_of (λ M. is_some (find_place M.folder T.places)) o && is_listed T.places s o) ≡ is_listed T.places s o
      split None e = refl
      split (Some M) e = rw (w.objects.held k M (is-message k M e)).1 refl

-- the rows that are built ascend, are those of the messages that the search is to list, and mirror them
pub record AreBuilt (T : Tree) (s : Search) (columns : List Column) (rows : List (ℕ × List Val)) : Type 0 where
  pub ascend : keys_ascend (λ r. r.0) 0 rows ≡ true
  pub lists_all : row_ids rows ≡ lists T s
  pub show_all : (m : ℕ) → MirrorsMessage columns rows m (as_message (object_at T m))

pub rows_built : (T : Tree) (s : Search) (columns : List Column) → IsWhole T → Fine (built_rows T s columns) (AreBuilt T s columns)
rows_built T s columns w =
    fine_weaker _ (AreBuilt T s columns) (built_rows T s columns) (rows-below T s columns w T.places (each-found place_id 0 T.places w.objects.ascend) [] refl)
    (λ rows p. record {
      ascend = p.ascend_still;
      lists_all = rows-are T s rows p.ascend_still (λ k. p.have k ∙ all-stand T s columns w k);
      show_all = p.show_still (λ m M e there. absurd (false≢true there));
    })
