-- Trees that are whole but for some ids, and what an object that is put leaves of that.
use Rattle.std.proofs.Common.{◌≡◌, ℕ, ◌≤◌, ◌%◌, ◌==◌, true, List, Option, None, Some, IsSome, arith, refl, sym, subst, ap, ◌∙◌, ◌⊎◌, inl, inr, ◌||◌}
use Rattle.std.proofs.lemmas.Bool.{eqb-true, and_parts, or_cases, cases_eq, false≢true}
use Rattle.mapi_values.specs.Keyed.{keys_ascend}
use Rattle.mapi_values.specs.Messages.{Mes}
use Rattle.mapi_values.specs.Tables.{find_row}
use Rattle.mail_objects.specs.Forms.{Ctx, Tbl}
use Rattle.mail_objects.specs.declared.object.Object.{Object}
use Rattle.mail_objects.specs.declared.object.Object.TheVariants.{Context, Table, Message, Bare}
use Rattle.mail_tree.specs.declared.places.FolderPlace.{FolderPlace}
use Rattle.mail_tree.specs.declared.places.Sort.{Sort}
use Rattle.mail_tree.specs.declared.places.Sort.TheVariants.{Plain, Foreign}
use Rattle.mail_tree.specs.Places.{ROOT, find_place, is_plain, is_plain_sort, place_id}
use Rattle.mail_tree.specs.Changing.{contents, hierarchy}
use Rattle.mail_tree.specs.Names.{HoldsNames}
use Rattle.mail_tree.specs.Whole.{AreWhole, HasRow, fits_id, kind_of_sort}

-- at one id stands this, and elsewhere what stood there
pub record Puts (at at' : ℕ → Option Object) (q : ℕ) (o : Option Object) : Type 0 where
  pub here : at' q ≡ o
  pub others : (x : ℕ) → (x ≡ q → ⊥) → at' x ≡ at x

-- whole but for what is said of these folders' rows and parents, and of these messages
pub record AreNearly (E : ℕ → Type 0) (places : List FolderPlace) (at : ℕ → Option Object) : Type 0 where
  pub ascend : keys_ascend place_id 0 places ≡ true
  pub root : (p : FolderPlace) × (find_place ROOT places ≡ Some p) × (is_plain p ≡ true) × (p.parent.bits ≡ ROOT)
  pub kinds : (f : ℕ) (p : FolderPlace) → find_place f places ≡ Some p → f % 32 ≡ kind_of_sort p.sort
  pub parents : (f : ℕ) (p : FolderPlace) → find_place f places ≡ Some p → (f ≡ ROOT → ⊥) → (E f → ⊥)
      → (q : FolderPlace) × (find_place p.parent.bits places ≡ Some q) × (is_plain q ≡ true) × HasRow (at (hierarchy p.parent.bits)) f
  pub typed : (q : ℕ) (o : Object) → at q ≡ Some o → fits_id q o ≡ true
  pub rows_ascend : (q : ℕ) (t : Tbl) → at q ≡ Some (Table t) → keys_ascend (λ r. r.0) 0 t.table.rows ≡ true
  pub store : IsSome (at 0x21)
  pub names : HoldsNames (at 0x61)
  pub contexts : (f : ℕ) (p : FolderPlace) → find_place f places ≡ Some p → (c : Ctx) × (at f ≡ Some (Context c)) × ((f ≡ ROOT → ⊥) → (E f → ⊥) → c.parent ≡ p.parent.bits)
  pub tables : (f : ℕ) (p : FolderPlace) → find_place f places ≡ Some p → is_plain p ≡ true → IsSome (at (hierarchy f)) × IsSome (at (contents f))
  pub listed : (f : ℕ) (p : FolderPlace) (t : Tbl) (m : ℕ) → find_place f places ≡ Some p → is_plain p ≡ true → at (contents f) ≡ Some (Table t)
      → IsSome (find_row m t.table.rows) → m % 32 ≡ 4 → (E m → ⊥) → (M : Mes) × (at m ≡ Some (Message M)) × (M.folder ≡ f)
  pub held : (m : ℕ) (M : Mes) → at m ≡ Some (Message M) → (E m → ⊥) → (p : FolderPlace) × (find_place M.folder places ≡ Some p) × (is_plain p ≡ true) × HasRow (at (contents M.folder)) m

-- a whole tree is so but for any ids
pub nearly : (E : ℕ → Type 0) (places : List FolderPlace) (at : ℕ → Option Object) → AreWhole places at → AreNearly E places at
nearly E places at w = record {
  ascend = w.ascend;
  root = w.root;
  kinds = w.kinds;
  parents = λ f p e other free. w.parents f p e other;
  typed = w.typed;
  rows_ascend = w.rows_ascend;
  store = w.store;
  names = w.names;
  contexts = λ f p e. let c = w.contexts f p e in (c.0, c.1, λ no_root free. c.2 no_root);
  tables = w.tables;
  listed = λ f p t m e plain at row kind free. w.listed f p t m e plain at row kind;
  held = λ m M e free. w.held m M e;
}

-- one that is so but for no id is whole
pub whole : (places : List FolderPlace) (at : ℕ → Option Object) → AreNearly (λ x. ⊥) places at → AreWhole places at
whole places at n = record {
  ascend = n.ascend;
  root = n.root;
  kinds = n.kinds;
  parents = λ f p e other. n.parents f p e other (λ x. x);
  typed = n.typed;
  rows_ascend = n.rows_ascend;
  store = n.store;
  names = n.names;
  contexts = λ f p e. let c = n.contexts f p e in (c.0, c.1, λ no_root. c.2 no_root (λ x. x));
  tables = n.tables;
  listed = λ f p t m e plain at row kind. n.listed f p t m e plain at row kind (λ x. x);
  held = λ m M e. n.held m M e (λ x. x);
}

-- a plain folder's id
plain_kind : (s : Sort) → is_plain_sort s ≡ true → kind_of_sort s ≡ 2
plain_kind Plain e = refl
plain_kind Foreign e = cc

pub folder_kind : (s : Sort) (f : ℕ) → f % 32 ≡ kind_of_sort s → (f % 32 ≡ 2) ⊎ (f % 32 ≡ 3)
folder_kind Plain f e = inl e
folder_kind Foreign f e = inr e

pub plain_id : {E : ℕ → Type 0} {places : List FolderPlace} {at : ℕ → Option Object} → AreNearly E places at → (f : ℕ) (p : FolderPlace) → find_place f places ≡ Some p → is_plain p ≡ true → f % 32 ≡ 2
plain_id n f p e plain = n.kinds f p e ∙ plain_kind p.sort plain

-- a message's id
pub message_id : (m : ℕ) (M : Mes) → fits_id m (Message M) ≡ true → (m % 32 ≡ 4) × (M.nid ≡ m)
message_id m M e = let p = and_parts (m % 32 == 4) (M.nid == m) e in (eqb-true (m % 32) 4 p.0, eqb-true M.nid m p.1)

-- values stand at two ids, and at those of three kinds
pub context_id : (q : ℕ) (c : Ctx) → fits_id q (Context c) ≡ true → (q % 32 ≡ 1) ⊎ ((q % 32 ≡ 2) ⊎ ((q % 32 ≡ 3) ⊎ (q % 32 ≡ 7)))
context_id q c e = elim (or_cases (q == 0x21) ((q == 0x61) || ((q % 32 == 2) || ((q % 32 == 3) || (q % 32 == 7)))) e) [
  | inl a ↦ inl (ap (λ x. x % 32) (eqb-true q 0x21 a))
  | inr b ↦ elim (or_cases (q == 0x61) ((q % 32 == 2) || ((q % 32 == 3) || (q % 32 == 7))) b) [
    | inl a ↦ inl (ap (λ x. x % 32) (eqb-true q 0x61 a))
    | inr d ↦ elim (or_cases (q % 32 == 2) ((q % 32 == 3) || (q % 32 == 7)) d) [
      | inl a ↦ inr (inl (eqb-true (q % 32) 2 a))
      | inr g ↦ elim (or_cases (q % 32 == 3) (q % 32 == 7) g) [ inl a ↦ inr (inr (inl (eqb-true (q % 32) 3 a))) | inr a ↦ inr (inr (inr (eqb-true (q % 32) 7 a))) ]
    ]
  ]
]

no_context : (q : ℕ) (c : Ctx) → fits_id q (Context c) ≡ true → (q % 32 ≡ 13) ⊎ ((q % 32 ≡ 14) ⊎ (q % 32 ≡ 15)) → ⊥
no_context q c e kind =
    let at_table : 13 ≤ q % 32 = elim kind [ inl k ↦ omega arith | inr k ↦ elim k [ inl l ↦ omega arith | inr l ↦ omega arith ] ] in
    elim (context_id q c e) [ inl k ↦ omega arith | inr k ↦ elim k [ inl l ↦ omega arith | inr l ↦ elim l [ inl x ↦ omega arith | inr x ↦ omega arith ] ] ]

-- what stands where a table may stand is a table
pub table_of : (q : ℕ) (o : Option Object) → ((x : Object) → o ≡ Some x → fits_id q x ≡ true) → (q % 32 ≡ 13) ⊎ ((q % 32 ≡ 14) ⊎ (q % 32 ≡ 15)) → IsSome o → (t : Tbl) × (o ≡ Some (Table t))
table_of q None typed kind is = absurd (false≢true is)
table_of q (Some (Table t)) typed kind is = (t, refl)
table_of q (Some (Context c)) typed kind is = absurd (no_context q c (typed (Context c) refl) kind)
table_of q (Some (Bare parent)) typed kind is = let six = eqb-true (q % 32) 6 (typed (Bare parent) refl) in absurd (elim kind [ inl k ↦ omega arith | inr k ↦ elim k [ inl l ↦ omega arith | inr l ↦ omega arith ] ])
table_of q (Some (Message m)) typed kind is = let e = message_id q m (typed (Message m) refl) in absurd (elim kind [ inl k ↦ omega arith | inr k ↦ elim k [ inl l ↦ omega arith | inr l ↦ omega arith ] ])

-- what an object that is put has to meet
pub record Suits (E : ℕ → Type 0) (places : List FolderPlace) (at : ℕ → Option Object) (q : ℕ) (o : Option Object) : Type 0 where
  pub typed : (x : Object) → o ≡ Some x → fits_id q x ≡ true
  pub rows_ascend : (t : Tbl) → o ≡ Some (Table t) → keys_ascend (λ r. r.0) 0 t.table.rows ≡ true
  pub store : q ≡ 0x21 → IsSome o
  pub names : q ≡ 0x61 → HoldsNames o
  pub context : (p : FolderPlace) → find_place q places ≡ Some p → (c : Ctx) × (o ≡ Some (Context c)) × ((q ≡ ROOT → ⊥) → (E q → ⊥) → c.parent ≡ p.parent.bits)
  pub folders : (f : ℕ) (p : FolderPlace) → find_place f places ≡ Some p → is_plain p ≡ true → q ≡ hierarchy f
      → IsSome o × ((g : ℕ) (r : FolderPlace) → find_place g places ≡ Some r → (g ≡ ROOT → ⊥) → (E g → ⊥) → r.parent.bits ≡ f → HasRow o g)
  pub messages : (f : ℕ) (p : FolderPlace) → find_place f places ≡ Some p → is_plain p ≡ true → q ≡ contents f
      → IsSome o
      × ((t : Tbl) (m : ℕ) → o ≡ Some (Table t) → IsSome (find_row m t.table.rows) → m % 32 ≡ 4 → (E m → ⊥) → (M : Mes) × (at m ≡ Some (Message M)) × (M.folder ≡ f))
      × ((m : ℕ) (M : Mes) → at m ≡ Some (Message M) → (E m → ⊥) → M.folder ≡ f → HasRow o m)
  pub message : (E q → ⊥) → q % 32 ≡ 4 → ⊥

module _ (E : ℕ → Type 0) (places : List FolderPlace) (at at' : ℕ → Option Object) (q : ℕ) (o : Option Object) (n : AreNearly E places at) (puts : Puts at at' q o) (suits : Suits E places at q o) where
  typed_still : (x : ℕ) (y : Object) → at' x ≡ Some y → fits_id x y ≡ true
  typed_still x y e = elim (cases_eq x q) [
    | inl same ↦ rw same (suits.typed y (sym puts.here ∙ (rw same at e)))
    | inr other ↦ n.typed x y (sym (puts.others x other) ∙ e)
  ]

  -- messages that matter aren't put
  apart : (m : ℕ) → (E m → ⊥) → m % 32 ≡ 4 → m ≡ q → ⊥
  apart m free kind same = suits.message (λ e. free (subst E (sym same) e)) (ap (λ x. x % 32) (sym same) ∙ kind)

  was_message : (m : ℕ) (M : Mes) → at' m ≡ Some (Message M) → (E m → ⊥) → at m ≡ Some (Message M)
  was_message m M e free = sym (puts.others m (apart m free (message_id m M (typed_still m (Message M) e)).0)) ∙ e

  is_message : (m : ℕ) (M : Mes) → at m ≡ Some (Message M) → (E m → ⊥) → at' m ≡ Some (Message M)
  is_message m M e free = puts.others m (apart m free (message_id m M (n.typed m (Message M) e)).0) ∙ e

  -- the tree is as nearly whole
  pub puts_suiting : AreNearly E places at'
  puts_suiting = record {
    ascend = n.ascend;
    root = n.root;
    kinds = n.kinds;
    parents = λ f p e other free.
        let w = n.parents f p e other free in (
          w.0,
          w.1,
          w.2,
          elim (cases_eq (hierarchy p.parent.bits) q) [
            | inl same ↦ subst (λ x. HasRow x f) (sym (ap at' same ∙ puts.here)) ((suits.folders p.parent.bits w.0 w.1 w.2 (sym same)).1 f p e other free refl)
            | inr apart ↦ subst (λ x. HasRow x f) (sym (puts.others (hierarchy p.parent.bits) apart)) w.3
          ],
        );
    typed = typed_still;
    rows_ascend = λ x t e. elim (cases_eq x q) [
      | inl same ↦ suits.rows_ascend t (sym puts.here ∙ ap at' (sym same) ∙ e)
      | inr other ↦ n.rows_ascend x t (sym (puts.others x other) ∙ e)
    ];
    store = elim (cases_eq 0x21 q) [
      | inl same ↦ subst IsSome (sym (ap at' same ∙ puts.here)) (suits.store (sym same))
      | inr other ↦ subst IsSome (sym (puts.others 0x21 other)) n.store
    ];
    names = elim (cases_eq 0x61 q) [
      | inl same ↦ subst HoldsNames (sym (ap at' same ∙ puts.here)) (suits.names (sym same))
      | inr other ↦ subst HoldsNames (sym (puts.others 0x61 other)) n.names
    ];
    contexts = λ f p e. elim (cases_eq f q) [
      | inl same ↦ let w = suits.context p (subst (λ x. find_place x places ≡ Some p) same e) in
          (w.0, ap at' same ∙ puts.here ∙ w.1, λ no_root free. w.2 (λ root. no_root (same ∙ root)) (λ x. free (subst E (sym same) x)))
      | inr other ↦ let w = n.contexts f p e in (w.0, puts.others f other ∙ w.1, w.2)
    ];
    tables = λ f p e plain. (
      elim (cases_eq (hierarchy f) q) [
        | inl same ↦ subst IsSome (sym (ap at' same ∙ puts.here)) (suits.folders f p e plain (sym same)).0
        | inr other ↦ subst IsSome (sym (puts.others (hierarchy f) other)) (n.tables f p e plain).0
      ],
      elim (cases_eq (contents f) q) [
        | inl same ↦ subst IsSome (sym (ap at' same ∙ puts.here)) (suits.messages f p e plain (sym same)).0
        | inr other ↦ subst IsSome (sym (puts.others (contents f) other)) (n.tables f p e plain).1
      ],
    );
    listed = λ f p t m e plain is row kind free.
        let w : (M : Mes) × (at m ≡ Some (Message M)) × (M.folder ≡ f) = elim (cases_eq (contents f) q) [
          | inl same ↦ (suits.messages f p e plain (sym same)).1 t m (sym puts.here ∙ ap at' (sym same) ∙ is) row kind free
          | inr other ↦ n.listed f p t m e plain (sym (puts.others (contents f) other) ∙ is) row kind free
        ] in
        (w.0, is_message m w.0 w.1 free, w.2);
    held = λ m M is free.
        let was = was_message m M is free in
        let w = n.held m M was free in (
          w.0,
          w.1,
          w.2,
          elim (cases_eq (contents M.folder) q) [
            | inl same ↦ subst (λ x. HasRow x m) (sym (ap at' same ∙ puts.here)) ((suits.messages M.folder w.0 w.1 w.2 (sym same)).2 m M was free refl)
            | inr other ↦ subst (λ x. HasRow x m) (sym (puts.others (contents M.folder) other)) w.3
          ],
        );
  }
