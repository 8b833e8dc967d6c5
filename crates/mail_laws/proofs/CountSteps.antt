-- Counts that are right, but for some folders, and what steps leave of that.
use Rattle.std.proofs.Common.{◌≡◌, ℕ, suc, ◌%◌, ◌<◌, ◌==◌, Bool, true, false, List, [], ◌∷◌, filter, map, length, Option, None, Some, IfOk, IsSome, arith, refl, sym, subst, ap, ◌∙◌, ◌⊎◌, inl, inr}
use Rattle.std.specs.List.{list_any}
use Rattle.std.specs.Prelude.{nat_le, nat_lt}
use Rattle.std.proofs.lemmas.Bool.{and_parts, cases_Bool, cases_eq, eqb-true, eq-eqb, ltb-true, ne_eqb, or_from}
use Rattle.std.proofs.lemmas.Option.{none-some}
use Rattle.mapi_values.specs.Keyed.{drop_key, find_key, keys_ascend, put_key}
use Rattle.mapi_values.specs.Properties.{find, put}
use Rattle.mapi_values.specs.Tables.{drop_row, find_row}
use Rattle.mapi_values.specs.Values.{Val}
use Rattle.mail_objects.specs.Forms.{Ctx, Tbl}
use Rattle.mail_objects.specs.declared.object.Object.{Object}
use Rattle.mail_objects.specs.declared.object.Object.TheVariants.{Context, Table, Message, Bare}
use Rattle.mail_tree.specs.declared.places.FolderPlace.{FolderPlace}
use Rattle.mail_tree.specs.Places.{ROOT, find_place, is_child, is_plain}
use Rattle.mail_tree.specs.Tree.{Tree}
use Rattle.mail_tree.specs.Values.{is_read, number, truth}
use Rattle.mail_tree.specs.Changing.{Answer, Changed, ◌>>=◌, add_shown, as_message, contents, context_at, drop_shown, hierarchy, known, message_at, now_at, overfills, put_shown, shown_row, table_at, with_object}
use Rattle.mail_tree.specs.Settling.{counted, is_message_row, message_ids, mirrored, table_as_is, settled, unread_among, with_context}
use Rattle.mail_laws.specs.Laws.{AreCountedBut, IsCounted, is_unread}
use Rattle.mail_tree.proofs.AfterTree.{puts_object}
use Rattle.mail_tree.proofs.KeyedFinds.{below, find-put_other, find-put_same}
use Rattle.mail_laws.proofs.Keeping.{if_any, if_then, if_weaker}
use Rattle.mail_tree.proofs.KindsOfPuts.{beside_kind, same_folder}
use Rattle.mail_laws.proofs.Touches.{if_context, if_table, table_same}
use Rattle.mail_tree.proofs.Nearly.{Puts}

-- the counts that values tell are the same
pub record SameCounts (old new : List Val) : Type 0 where
  pub messages : find 0x3602 new ≡ find 0x3602 old
  pub unread : find 0x3603 new ≡ find 0x3603 old
  pub folders : find 0x360A new ≡ find 0x360A old

-- ids of plain folders
abbrev pub PlainIds : List FolderPlace → Type 0
PlainIds places = (f : ℕ) (p : FolderPlace) → find_place f places ≡ Some p → is_plain p ≡ true → f % 32 ≡ 2

-- as many weren't read, where the messages that are listed stand as they stood
same_unread : (at at' : ℕ → Option Object) (rows : List (ℕ × List Val)) → ((m : ℕ) → IsSome (find_row m rows) → m % 32 ≡ 4 → at' m ≡ at m)
    → filter (λ m. is_unread (at' m)) (map (λ r. r.0) (filter is_message_row rows)) ≡ filter (λ m. is_unread (at m)) (map (λ r. r.0) (filter is_message_row rows))
same_unread at at' [] same = refl
same_unread at at' (r ∷ rs) same =
    let rest = same_unread at at' rs (λ m row four. same m (later m row) four) in
    elim (cases_Bool (r.0 % 32 == 4)) [
      | inl t ↦ rw (t, same r.0 (rw (eq-eqb r.0 r.0 refl) refl) (eqb-true (r.0 % 32) 4 t)) (elim (cases_Bool (is_unread (at r.0))) [ inl u ↦ rw u (ap (λ l. r.0 ∷ l) rest) | inr u ↦ rw u rest ])
      | inr t ↦ rw t rest
    ]
  where
    later : (m : ℕ) → IsSome (find_row m rs) → IsSome (find_row m (r ∷ rs))
    later m row = elim (cases_Bool (r.0 == m)) [ inl t ↦ rw t refl | inr t ↦ rw t row ]

-- an object is put that changes the counts of none but these
pub counted_put : (E : ℕ → Type 0) (places : List FolderPlace) (at at' : ℕ → Option Object) (q : ℕ) (o : Option Object) → AreCountedBut E places at → Puts at at' q o
    → ((f : ℕ) (p : FolderPlace) (c' : Ctx) → find_place f places ≡ Some p → is_plain p ≡ true → (E f → ⊥) → q ≡ f → o ≡ Some (Context c') → (c : Ctx) × (at f ≡ Some (Context c)) × SameCounts c.props c'.props)
    → ((f : ℕ) (p : FolderPlace) → find_place f places ≡ Some p → is_plain p ≡ true → (E f → ⊥) → q ≡ contents f → ⊥)
    → ((f : ℕ) (p : FolderPlace) (t : Tbl) → find_place f places ≡ Some p → is_plain p ≡ true → (E f → ⊥) → at (contents f) ≡ Some (Table t) → IsSome (find_row q t.table.rows) → q % 32 ≡ 4 → ⊥)
    → AreCountedBut E places at'
counted_put E places at at' q o s puts values table message f p c' t e plain free is_c is_t =
    let was_t : at (contents f) ≡ Some (Table t) = sym (puts.others (contents f) (λ same. table f p e plain free (sym same))) ∙ is_t in
    let old : (c : Ctx) × (at f ≡ Some (Context c)) × SameCounts c.props c'.props = elim (cases_eq f q) [
      | inl same ↦ values f p c' e plain free (sym same) (sym puts.here ∙ ap at' (sym same) ∙ is_c)
      | inr other ↦ (c', sym (puts.others f other) ∙ is_c, record { messages = refl; unread = refl; folders = refl })
    ] in
    let k = s f p old.0 t e plain free old.1 was_t in
    let unread = same_unread at at' t.table.rows (λ m row four. puts.others m (λ same. message f p t e plain free was_t (subst (λ x. IsSome (find_row x t.table.rows)) same row) (ap (λ x. x % 32) (sym same) ∙ four))) in
    record {
      messages = old.2.messages ∙ k.messages;
      unread = old.2.unread ∙ k.unread ∙ ap (λ l. Some (number 0x3603 (length l))) (sym unread);
      folders = old.2.folders ∙ k.folders;
    }

-- a folder's counts that are right too
pub counted_too : (E : ℕ → Type 0) (places : List FolderPlace) (at : ℕ → Option Object) (f : ℕ) → AreCountedBut (λ x. E x ⊎ (x ≡ f)) places at
    → ((c : Ctx) (t : Tbl) → at f ≡ Some (Context c) → at (contents f) ≡ Some (Table t) → IsCounted places at f c t) → AreCountedBut (λ x. E x × (x ≡ f → ⊥)) places at
counted_too E places at f s here g p c t e plain free is_c is_t = elim (cases_eq g f) [
  | inl same ↦ subst (λ x. IsCounted places at x c t) (sym same) (here c t (ap at (sym same) ∙ is_c) (ap (λ x. at (contents x)) (sym same) ∙ is_t))
  | inr other ↦ s g p c t e plain (λ h. elim h [ inl x ↦ free (x, other) | inr x ↦ other x ]) is_c is_t
]

-- fewer are right
pub counted_fewer : (E E' : ℕ → Type 0) (places : List FolderPlace) (at : ℕ → Option Object) → ((x : ℕ) → E x → E' x) → AreCountedBut E places at → AreCountedBut E' places at
counted_fewer E E' places at more s f p c t e plain free is_c is_t = s f p c t e plain (λ x. free (more f x)) is_c is_t

-- places change
pub counted_places : (E : ℕ → Type 0) (places places' : List FolderPlace) (at : ℕ → Option Object) → AreCountedBut E places at
    → ((f : ℕ) (p' : FolderPlace) → find_place f places' ≡ Some p' → is_plain p' ≡ true → (E f → ⊥)
    → (p : FolderPlace) × (find_place f places ≡ Some p) × (is_plain p ≡ true) × (list_any (is_child f) places' ≡ list_any (is_child f) places)) → AreCountedBut E places' at
counted_places E places places' at s same f p' c t e plain free is_c is_t =
    let w = same f p' e plain free in let k = s f w.0 c t w.1 w.2 free is_c is_t in
    record { messages = k.messages; unread = k.unread; folders = k.folders ∙ ap (λ b. Some (truth 0x360A b)) (sym w.3) }

-- an element that fails a test takes the place of one that fails it, or of none
pub any_put : {X : Type 0} (key : X → ℕ) (test : X → Bool) (y : X) (xs : List X) → test y ≡ false → ((x : X) → find_key key (key y) xs ≡ Some x → test x ≡ false) → list_any test (put_key key y xs) ≡ list_any test xs
any_put key test y [] no_y none = rw no_y refl
any_put key test y (x ∷ xs) no_y none = elim (cases_Bool (nat_lt (key x) (key y))) [
  | inl t ↦ let less = ltb-true (key x) (key y) t in
      rw (t, any_put key test y xs no_y (λ z e. none z (rw (ne_eqb (key x) (key y) (λ e. omega arith)) e))) refl
  | inr t ↦ rw t (elim (cases_Bool (key x == key y)) [
    | inl u ↦ rw (u, no_y, none x (rw u refl)) refl
    | inr u ↦ rw (u, no_y) refl
  ])
]

pub any_drop : {X : Type 0} (key : X → ℕ) (test : X → Bool) (k : ℕ) (xs : List X) → ((x : X) → find_key key k xs ≡ Some x → test x ≡ false) → list_any test (drop_key key k xs) ≡ list_any test xs
any_drop key test k [] none = refl
any_drop key test k (x ∷ xs) none = elim (cases_Bool (key x == k)) [
  | inl t ↦ rw (t, none x (rw t refl)) refl
  | inr t ↦ rw (t, any_drop key test k xs (λ z e. none z (rw t e))) refl
]

-- none of a list passes a test that each that is found fails
pub none_passes : {X : Type 0} (key : X → ℕ) (test : X → Bool) (low : ℕ) (xs : List X) → keys_ascend key low xs ≡ true → ((k : ℕ) (x : X) → find_key key k xs ≡ Some x → test x ≡ false) → list_any test xs ≡ false
none_passes key test low [] a fails = refl
none_passes key test low (x ∷ xs) a fails =
    let p = and_parts (nat_le low (key x)) (keys_ascend key (suc (key x)) xs) a in
    or_from (test x) (list_any test xs) (fails (key x) x (rw (eq-eqb (key x) (key x) refl) refl))
    (none_passes key test (suc (key x)) xs p.1 (λ k y e. fails k y (elim (cases_Bool (key x == k)) [
      | inl t ↦ let same = eqb-true (key x) k t in absurd (none-some y (sym (below key (suc (key x)) k xs p.1 (omega arith)) ∙ e))
      | inr t ↦ rw t e
    ])))

-- how many of the messages weren't read
if_message : (T : Tree) (D : Changed) (m : ℕ) → IfOk (message_at T D m) (λ M. now_at T D m ≡ Some (Message M))
if_message T D m = go (now_at T D m)
  where
    go : (o : Option Object) → IfOk (known (as_message o)) (λ M. o ≡ Some (Message M))
    go None = tt
    go (Some (Context c)) = tt
    go (Some (Table t)) = tt
    go (Some (Bare parent)) = tt
    go (Some (Message M)) = refl

if_unread : (T : Tree) (D : Changed) (ms : List ℕ) → IfOk (unread_among T D ms) (λ n. n ≡ length (filter (λ m. is_unread (now_at T D m)) ms))
if_unread T D [] = refl
if_unread T D (m ∷ ms) = if_then (λ M. now_at T D m ≡ Some (Message M)) _ (message_at T D m) _ (if_message T D m) (λ M is.
    if_then (λ n. n ≡ length (filter (λ m. is_unread (now_at T D m)) ms)) _ (unread_among T D ms) _ (if_unread T D ms) (λ n e.
    rw is (elim (cases_Bool (is_read M.props)) [ inl b ↦ rw b (omega arith) | inr b ↦ rw b (omega arith) ])))

module _ (T : Tree) (places : List FolderPlace) (ids : PlainIds places) where
  abbrev pub CountedBut : (ℕ → Type 0) → Changed → Type 0
  CountedBut E D = AreCountedBut E places (now_at T D)

  -- a table that none but these have for their messages gets other rows
  pub rows_keep : (E : ℕ → Type 0) (D : Changed) (q : ℕ) (t : Tbl) → 4 < q % 32 → ((f : ℕ) (p : FolderPlace) → find_place f places ≡ Some p → is_plain p ≡ true → (E f → ⊥) → q ≡ contents f → ⊥) → CountedBut E D → CountedBut E (with_object q (Some (Table t)) D)
  rows_keep E D q t high apart s = counted_put E places (now_at T D) _ q (Some (Table t)) s (puts_object T D q (Some (Table t))) (λ f p c e plain free same is. cc) apart (λ f p t e plain free is row four. omega arith)

  pub put_counts : (E : ℕ → Type 0) (D : Changed) (q id : ℕ) (props : List Val) → 4 < q % 32 → ((f : ℕ) (p : FolderPlace) → find_place f places ≡ Some p → is_plain p ≡ true → (E f → ⊥) → q ≡ contents f → ⊥) → CountedBut E D → IfOk (put_shown T q id props D) (CountedBut E)
  unfolding put_shown
  put_counts E D q id props high apart s = if_then (λ t. Unit {0}) (CountedBut E) (table_at T D q) _ (if_any (table_at T D q)) (λ t u.
      rows_keep E D q (record { parent = t.parent; table = record t.table { rows = shown_row id props t.table } }) high apart s)

  pub add_counts : (E : ℕ → Type 0) (D : Changed) (q id : ℕ) (props : List Val) → 4 < q % 32 → ((f : ℕ) (p : FolderPlace) → find_place f places ≡ Some p → is_plain p ≡ true → (E f → ⊥) → q ≡ contents f → ⊥) → CountedBut E D → IfOk (add_shown T q id props D) (CountedBut E)
  unfolding add_shown
  add_counts E D q id props high apart s = if_then (λ t. Unit {0}) (CountedBut E) (table_at T D q) _ (if_any (table_at T D q)) (λ t u. elim (cases_Bool (overfills t.table.rows (shown_row id props t.table))) [
    | inl b ↦ rw b tt
    | inr b ↦ rw b (rows_keep E D q (record { parent = t.parent; table = record t.table { rows = shown_row id props t.table } }) high apart s)
  ])

  pub drop_counts : (E : ℕ → Type 0) (D : Changed) (q id : ℕ) → 4 < q % 32 → ((f : ℕ) (p : FolderPlace) → find_place f places ≡ Some p → is_plain p ≡ true → (E f → ⊥) → q ≡ contents f → ⊥) → CountedBut E D → IfOk (drop_shown T q id D) (CountedBut E)
  unfolding drop_shown
  drop_counts E D q id high apart s = if_then (λ t. Unit {0}) (CountedBut E) (table_at T D q) _ (if_any (table_at T D q)) (λ t u.
      rows_keep E D q (record { parent = t.parent; table = record t.table { rows = drop_row id t.table.rows } }) high apart s)

  -- which tables those are
  pub no_contents : (E : ℕ → Type 0) (g : ℕ) (f : ℕ) (p : FolderPlace) → find_place f places ≡ Some p → is_plain p ≡ true → (E f → ⊥) → hierarchy g ≡ contents f → ⊥
  no_contents E g f p e plain free same = omega (arith, beside_kind g 13 (omega arith), beside_kind f 14 (omega arith))

  pub own_contents : (E : ℕ → Type 0) (g : ℕ) → g % 32 ≡ 2 → E g → (f : ℕ) (p : FolderPlace) → find_place f places ≡ Some p → is_plain p ≡ true → (E f → ⊥) → contents g ≡ contents f → ⊥
  own_contents E g two has f p e plain free same = free (subst E (same_folder g f 14 two (ids f p e plain) same) has)

  -- a folder's other values, but for these
  pub values_put : (E : ℕ → Type 0) (D D' : Changed) (f : ℕ) (c' : Ctx) → f % 32 ≡ 2 → CountedBut E D → Puts (now_at T D) (now_at T D') f (Some (Context c')) → ((E f → ⊥) → (c : Ctx) × (now_at T D f ≡ Some (Context c)) × SameCounts c.props c'.props) → CountedBut E D'
  values_put E D D' f c' two s puts same = counted_put E places (now_at T D) (now_at T D') f (Some (Context c')) s puts
      (λ g p c'' e plain free is ec.
      let w = same (λ x. free (subst E is x)) in
      let one : c' ≡ c'' = cc in
      (w.0, ap (now_at T D) (sym is) ∙ w.1, subst (λ (x : Ctx). SameCounts w.0.props x.props) one w.2))
      (λ g p e plain free is. omega (arith, beside_kind g 14 (omega arith)))
      (λ g p t e plain free is row four. omega arith)

  -- a folder is counted anew
  pub counted_closes : (E : ℕ → Type 0) (D : Changed) (f : ℕ) → f % 32 ≡ 2 → CountedBut E D → IfOk (counted T places f D) (CountedBut (λ x. E x × (x ≡ f → ⊥)))
  unfolding counted
  counted_closes E D f two s =
      if_then (λ c. now_at T D f ≡ Some (Context c)) _ (context_at T D f) _ (if_context T D f) (λ c is_c.
      if_then (λ t. now_at T D (contents f) ≡ Some (Table t)) _ (table_at T D (contents f)) _ (if_table T D (contents f)) (λ t is_t.
      if_then (λ n. n ≡ length (filter (λ m. is_unread (now_at T D m)) (message_ids t.table))) _ (unread_among T D (message_ids t.table)) _ (if_unread T D (message_ids t.table)) (λ n is_n.
      let messages = length (message_ids t.table) in
      let folders = list_any (is_child f) places in
      let v1 = put (number 0x3602 messages) c.props in
      let v2 = put (number 0x3603 n) v1 in
      let v3 = put (truth 0x360A folders) v2 in
      let new : Ctx = record c { props = v3 } in
      let D' = with_context f c v3 D in
      let puts = puts_object T D f (Some (Context new)) in
      counted_too E places (now_at T D') f
      (values_put (λ x. E x ⊎ (x ≡ f)) D D' f new two (counted_fewer E (λ x. E x ⊎ (x ≡ f)) places (now_at T D) (λ x h. inl h) s) puts (λ free. absurd (free (inr refl))))
      (λ c' t' is_c' is_t'.
      let same_c : new ≡ c' = cc (sym puts.here ∙ is_c') in
      let was_t : now_at T D (contents f) ≡ Some (Table t') = sym (puts.others (contents f) (λ e. omega (arith, beside_kind f 14 (omega arith)))) ∙ is_t' in
      let same_t : t ≡ t' = cc (sym is_t ∙ was_t) in
      let unread = same_unread (now_at T D) (now_at T D') t.table.rows (λ m row four. puts.others m (λ e. omega arith)) in
      subst (λ (x : Ctx). IsCounted places (now_at T D') f x t') same_c (subst (λ (x : Tbl). IsCounted places (now_at T D') f new x) same_t (record {
        messages = find-put_other (λ v. v.id) 0x3602 (truth 0x360A folders) v2 (λ e. omega arith) ∙ find-put_other (λ v. v.id) 0x3602 (number 0x3603 n) v1 (λ e. omega arith) ∙ find-put_same (λ v. v.id) (number 0x3602 messages) c.props;
        unread = find-put_other (λ v. v.id) 0x3603 (truth 0x360A folders) v2 (λ e. omega arith) ∙ find-put_same (λ v. v.id) (number 0x3603 n) v1 ∙ ap (λ k. Some (number 0x3603 k)) (is_n ∙ ap length (sym unread));
        folders = find-put_same (λ v. v.id) (truth 0x360A folders) v2;
      }))))))

  pub mirrored_counts : (E : ℕ → Type 0) (D : Changed) (f : ℕ) → CountedBut E D → IfOk (mirrored T f D) (CountedBut E)
  unfolding mirrored
  mirrored_counts E D f s = elim (cases_Bool (f == ROOT)) [
    | inl b ↦ rw b (if_weaker (λ D'. now_at T D' ≡ now_at T D) (CountedBut E) (table_as_is T (hierarchy ROOT) D) (table_same T (hierarchy ROOT) D) (λ D' same. subst (AreCountedBut E places) (sym same) s))
    | inr b ↦ rw b (if_then (λ c. Unit {0}) (CountedBut E) (context_at T D f) _ (if_any (context_at T D f)) (λ c u. put_counts E D (hierarchy c.parent) f c.props (omega (arith, beside_kind c.parent 13 (omega arith))) (no_contents E c.parent) s))
  ]

  pub settled_counts : (E : ℕ → Type 0) (D : Changed) (f : ℕ) → f % 32 ≡ 2 → CountedBut E D → IfOk (settled T places f D) (CountedBut (λ x. E x × (x ≡ f → ⊥)))
  unfolding settled
  settled_counts E D f two s = if_then (CountedBut (λ x. E x × (x ≡ f → ⊥))) (CountedBut (λ x. E x × (x ≡ f → ⊥))) (counted T places f D) (mirrored T f) (counted_closes E D f two s) (λ D' k. mirrored_counts (λ x. E x × (x ≡ f → ⊥)) D' f k)

  pub then_counts : (E : ℕ → Type 0) (a : Answer Changed) (f : ℕ) → f % 32 ≡ 2 → IfOk a (CountedBut E) → IfOk (a >>= settled T places f) (CountedBut (λ x. E x × (x ≡ f → ⊥)))
  then_counts E a f two h = if_then (CountedBut E) (CountedBut (λ x. E x × (x ≡ f → ⊥))) a (settled T places f) h (λ D k. settled_counts E D f two k)
