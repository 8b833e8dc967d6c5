-- The tree that is made from nodes.
use Rattle.std.proofs.Common.{◌≡◌, ◌⊎◌, inl, inr, ◌∙◌, ℕ, ◌%◌, ◌==◌, ◌≤◌, ◌<◌, true, List, Option, None, Some, IsSome, is_some, arith, refl, sym, subst, ap, ◌||◌}
use Rattle.std.proofs.lemmas.Bool.{eqb-true, false≢true, or_cases}
use Rattle.mapi_values.specs.Messages.{Mes}
use Rattle.mail_objects.specs.Forms.{Ctx, Tbl}
use Rattle.mail_objects.specs.declared.object.Object.{Object}
use Rattle.mail_objects.specs.declared.object.Object.TheVariants.{Context, Table, Message, Bare}
use Rattle.node_port.specs.Nodes.{Nodes, node_at}
use Rattle.pst_base.specs.declared.ids.Nid.{Nid}
use Rattle.mail_tree.specs.declared.places.FolderPlace.{FolderPlace}
use Rattle.mail_tree.specs.Changing.{associated, contents, hierarchy}
use Rattle.mail_tree.specs.Folders.{place}
use Rattle.mail_tree.specs.Found.{BelongsAt, IsFound, named_sort}
use Rattle.mail_tree.specs.Ids.{is_taken}
use Rattle.mail_tree.specs.Places.{ROOT, find_place, is_plain}
use Rattle.mail_tree.specs.Standing.{HasContext, HasMail, HasTable, HasTree, ListsMessage, names_sort}
use Rattle.mail_tree.specs.Tree.{StandsAt, Tree, object_at}
use Rattle.mail_tree.specs.Whole.{AreWhole, HasNoStray, HasRow, IsWhole, fits_id}
use Rattle.mail_tree.proofs.FineLaws.{cases_Option}
use Rattle.mail_tree.proofs.KindsOfPuts.{beside_kind, low}
use Rattle.mail_tree.proofs.Nearly.{context_id, folder_kind, message_id, table_of}
use Rattle.tree_look.specs.Shows.{IsBeside, IsFixed, IsOwned, Shows}
use Rattle.tree_look.proofs.Gather.{Gathered, gather}
use Rattle.tree_look.proofs.Owned.{IsAt, object_of, one_context_at, one_mail_at, one_table_at, owned}
use Rattle.tree_look.proofs.Rows.{rows_rise}

-- a table's id
pub table_id : (q : ℕ) (t : Tbl) → fits_id q (Table t) ≡ true → 13 ≤ q % 32
table_id q t e = elim (or_cases (q % 32 == 13) ((q % 32 == 14) || ((q % 32 == 15) || (q % 32 == 16))) e) [
  | inl k ↦ let is = eqb-true (q % 32) 13 k in omega arith
  | inr r ↦ elim (or_cases (q % 32 == 14) ((q % 32 == 15) || (q % 32 == 16)) r) [
    | inl k ↦ let is = eqb-true (q % 32) 14 k in omega arith
    | inr s ↦ elim (or_cases (q % 32 == 15) (q % 32 == 16) s) [
      | inl k ↦ let is = eqb-true (q % 32) 15 k in omega arith
      | inr k ↦ let is = eqb-true (q % 32) 16 k in omega arith
    ]
  ]
]

-- a node without data has an id of its own kind
pub bare_id : (q : ℕ) (parent : Nid) → fits_id q (Bare parent) ≡ true → q % 32 ≡ 6
bare_id q parent e = eqb-true (q % 32) 6 e

-- values stand below the kinds of tables, and at ids of other kinds than messages and nodes without data
pub context_low : (q : ℕ) (c : Ctx) → fits_id q (Context c) ≡ true → q % 32 < 8
context_low q c e = elim (context_id q c e) [ inl k ↦ omega arith | inr r ↦ elim r [ inl k ↦ omega arith | inr s ↦ elim s [ inl k ↦ omega arith | inr k ↦ omega arith ] ] ]

pub context_apart : (q : ℕ) (c : Ctx) → fits_id q (Context c) ≡ true → (q % 32 ≡ 4) ⊎ (q % 32 ≡ 6) → ⊥
context_apart q c e (inl other) = elim (context_id q c e) [ inl k ↦ omega arith | inr r ↦ elim r [ inl k ↦ omega arith | inr s ↦ elim s [ inl k ↦ omega arith | inr k ↦ omega arith ] ] ]
context_apart q c e (inr other) = elim (context_id q c e) [ inl k ↦ omega arith | inr r ↦ elim r [ inl k ↦ omega arith | inr s ↦ elim s [ inl k ↦ omega arith | inr k ↦ omega arith ] ] ]

-- the store's values and the names are of one kind
fixed_kind : (q : ℕ) → IsFixed q → q % 32 ≡ 1
fixed_kind q (inl e) = ap (λ x. x % 32) e
fixed_kind q (inr e) = ap (λ x. x % 32) e

-- what stands beside a folder has the id of a table or of a message
beside_high : (N : Nodes) (f q : ℕ) → IsBeside N f q → (13 ≤ q % 32) ⊎ (q % 32 ≡ 4)
beside_high N f q (inl same) = inl (omega (arith, beside_kind f 13 (omega arith)))
beside_high N f q (inr (inl same)) = inl (omega (arith, beside_kind f 14 (omega arith)))
beside_high N f q (inr (inr (inl x))) = let same = x.0 in inl (omega (arith, beside_kind f 15 (omega arith)))
beside_high N f q (inr (inr (inr x))) = inr x.3

-- what stands at the id of a folder, a table or a message is of the form that is there
is_context : (N : Nodes) (q : ℕ) (c : Ctx) (o : Option Object) → IsSome o → ((x : Object) → o ≡ Some x → IsAt N q x) → q % 32 < 4 → HasContext N q c → o ≡ Some (Context c)
is_context N q c None is each below has = absurd (false≢true is)
is_context N q c (Some (Context d)) is each below has = ap (λ (x : Ctx). Some (Context x)) (one_context_at N q d c (each (Context d) refl).0 has)
is_context N q c (Some (Table t)) is each below has = let more = table_id q t (each (Table t) refl).1 in absurd (omega arith)
is_context N q c (Some (Message m)) is each below has = let four = (message_id q m (each (Message m) refl).1).0 in absurd (omega arith)
is_context N q c (Some (Bare parent)) is each below has = let six = bare_id q parent (each (Bare parent) refl).1 in absurd (omega arith)

is_table : (N : Nodes) (q : ℕ) (t : Tbl) (o : Option Object) → IsSome o → ((x : Object) → o ≡ Some x → IsAt N q x) → (q % 32 ≡ 13) ⊎ ((q % 32 ≡ 14) ⊎ (q % 32 ≡ 15)) → HasTable N q t → o ≡ Some (Table t)
is_table N q t o is each kind has =
    let u = table_of q o (λ x e. (each x e).1) kind is in
    u.1 ∙ ap (λ (x : Tbl). Some (Table x)) (one_table_at N q u.0 t (each (Table u.0) u.1).0 has)

is_mail : (N : Nodes) (q : ℕ) (m : Mes) (o : Option Object) → IsSome o → ((x : Object) → o ≡ Some x → IsAt N q x) → q % 32 ≡ 4 → HasMail N q m → o ≡ Some (Message m)
is_mail N q m None is each kind has = absurd (false≢true is)
is_mail N q m (Some (Message n)) is each kind has = ap (λ (x : Mes). Some (Message x)) (one_mail_at N q n m (each (Message n) refl).0 has)
is_mail N q m (Some (Table t)) is each kind has = let more = table_id q t (each (Table t) refl).1 in absurd (omega arith)
is_mail N q m (Some (Context c)) is each kind has = absurd (context_apart q c (each (Context c) refl).1 (inl kind))
is_mail N q m (Some (Bare parent)) is each kind has = let six = bare_id q parent (each (Bare parent) refl).1 in absurd (omega arith)

module _ (N : Nodes) (places : List FolderPlace) (last : List ℕ) (h : HasTree N places) where
  made : Gathered N (IsAt N) (owned N places h).ids
  made = gather N (IsAt N) (owned N places h).ids (λ q is. object_of N places h q ((owned N places h).are q is))

  abbrev tree : Tree
  tree = record { places = places; objects = made.objects; others = made.others; last = last }

  stands : (q : ℕ) (o : Object) → object_at tree q ≡ Some o → IsAt N q o
  stands q o e = (made.is q o e).0

  belongs : (q : ℕ) (o : Object) → object_at tree q ≡ Some o → IsOwned N places q
  belongs q o e = (owned N places h).are q (made.is q o e).1

  has : (q : ℕ) → IsOwned N places q → IsSome (object_at tree q)
  has q is = made.all q ((owned N places h).all q is)

  at : (q : ℕ) → StandsAt q (node_at N q) (object_at tree q) (node_at tree.others q)
  at q = go (object_at tree q) refl
    where
      go : (o : Option Object) → object_at tree q ≡ o → StandsAt q (node_at N q) o (node_at tree.others q)
      go None e = sym (made.not q e)
      go (Some o) e = let is = made.is q o e in (is.2, is.0.0)

  context_at : (f : ℕ) (p : FolderPlace) (c : Ctx) → find_place f places ≡ Some p → HasContext N f c → object_at tree f ≡ Some (Context c)
  context_at f p c e is = is_context N f c (object_at tree f) (has f (inr (inl (subst IsSome (sym e) refl)))) (stands f) (let (above, below) = low f (folder_kind p.sort f (h.kinds f p e)) in below) is

  folders_at : (f : ℕ) (p : FolderPlace) (t : Tbl) → find_place f places ≡ Some p → is_plain p ≡ true → HasTable N (hierarchy f) t → object_at tree (hierarchy f) ≡ Some (Table t)
  folders_at f p t e plain is = is_table N (hierarchy f) t (object_at tree (hierarchy f)) (has (hierarchy f) (inr (inr (f, (p, e, plain), inl refl)))) (stands (hierarchy f)) (inl (beside_kind f 13 (omega arith))) is

  messages_at : (f : ℕ) (p : FolderPlace) (t : Tbl) → find_place f places ≡ Some p → is_plain p ≡ true → HasTable N (contents f) t → object_at tree (contents f) ≡ Some (Table t)
  messages_at f p t e plain is = is_table N (contents f) t (object_at tree (contents f)) (has (contents f) (inr (inr (f, (p, e, plain), inr (inl refl))))) (stands (contents f)) (inr (inl (beside_kind f 14 (omega arith)))) is

  -- a message object is one that a folder lists
  message_held : (m : ℕ) (M : Mes) → object_at tree m ≡ Some (Message M) → IsOwned N places m → (p : FolderPlace) × (find_place M.folder places ≡ Some p) × (is_plain p ≡ true) × HasRow (object_at tree (contents M.folder)) m
  message_held m M e (inl fixed) = let four = (message_id m M (stands m (Message M) e).1).0 in let one = fixed_kind m fixed in absurd (omega arith)
  message_held m M e (inr (inl placed)) =
      let four = (message_id m M (stands m (Message M) e).1).0 in
      elim (cases_Option (find_place m places)) [
        | inl none ↦ absurd (false≢true (sym (ap is_some none) ∙ placed))
        | inr p ↦ let (above, below) = low m (folder_kind p.0.sort m (h.kinds m p.0 p.1)) in absurd (omega arith)
      ]
  message_held m M e (inr (inr (f, p, inl same))) = let four = (message_id m M (stands m (Message M) e).1).0 in absurd (omega (arith, beside_kind f 13 (omega arith)))
  message_held m M e (inr (inr (f, p, inr (inl same)))) = let four = (message_id m M (stands m (Message M) e).1).0 in absurd (omega (arith, beside_kind f 14 (omega arith)))
  message_held m M e (inr (inr (f, p, inr (inr (inl x))))) = let four = (message_id m M (stands m (Message M) e).1).0 in let same = x.0 in absurd (omega (arith, beside_kind f 15 (omega arith)))
  message_held m M e (inr (inr (f, p, inr (inr (inr x))))) =
      let listed = (h.tables f p.0 p.1 p.2).listed m x in
      let folder : f ≡ M.folder = sym listed.2 ∙ ap (λ (y : Mes). y.folder) (one_mail_at N m listed.0 M listed.1 (stands m (Message M) e).0) in (
        p.0,
        subst (λ g. find_place g places ≡ Some p.0) folder p.1,
        p.2,
        subst (λ g. HasRow (object_at tree (contents g)) m) folder (x.0, messages_at f p.0 x.0 p.1 p.2 x.1, x.2),
      )

  are_whole : AreWhole places (object_at tree)
  are_whole = record {
    ascend = h.ascend;
    root = (place ROOT ROOT, h.root, refl, refl);
    kinds = h.kinds;
    parents = λ f p e no_root. let v = h.parents f p e no_root in (v.0, v.1, v.2, (v.3.0, folders_at p.parent.bits v.0 v.3.0 v.1 v.2 v.3.1, v.3.2));
    typed = λ q o e. (stands q o e).1;
    rows_ascend = λ q t e. let is = (stands q (Table t) e).0 in rows_rise is.0.blocks is.0.subs t.table (is.2).table;
    store = has 0x21 (inl (inl refl));
    names = let n = h.names in (n.0, is_context N 0x61 n.0 (object_at tree 0x61) (has 0x61 (inl (inr refl))) (stands 0x61) (omega arith) n.1, n.2);
    contexts = λ f p e. let c = h.contexts f p e in (c.0, context_at f p c.0 e c.1, c.2);
    tables = λ f p e plain. (has (hierarchy f) (inr (inr (f, (p, e, plain), inl refl))), has (contents f) (inr (inr (f, (p, e, plain), inr (inl refl)))));
    listed = λ f p t m e plain is row four.
        let x : ListsMessage N f m = (t, (stands (contents f) (Table t) is).0, row, four) in
        let listed = (h.tables f p e plain).listed m x in
        (listed.0, is_mail N m listed.0 (object_at tree m) (has m (inr (inr (f, (p, e, plain), inr (inr (inr x)))))) (stands m) four listed.1, listed.2);
    held = λ m M e. message_held m M e (belongs m (Message M) e);
  }

  no_stray : HasNoStray tree
  no_stray f p e plain = go (object_at tree (associated f)) refl
    where
      go : (o : Option Object) → object_at tree (associated f) ≡ o → node_at tree.others (associated f) ≡ None
      go (Some o) is = (made.is (associated f) o is).2
      go None none = made.not (associated f) none ∙ elim (cases_Option (node_at N (associated f))) [
        | inl free ↦ free
        | inr node ↦ absurd (false≢true (sym (ap is_some none) ∙ has (associated f) (inr (inr (f, (p, e, plain), inr (inr (inl (refl, subst IsSome (sym node.1) refl))))))))
      ]

  taken : (q : ℕ) → is_taken tree q ≡ is_some (node_at N q)
  taken q = go (object_at tree q) (at q)
    where
      go : (o : Option Object) → StandsAt q (node_at N q) o (node_at tree.others q) → (is_some o || is_some (node_at tree.others q)) ≡ is_some (node_at N q)
      go None e = sym (ap is_some e)
      go (Some o) e = sym (ap is_some e.1.1)

  named : (r : ℕ) → named_sort tree r ≡ names_sort N r
  named r = rw (taken r) refl

  placed_low : (q : ℕ) → IsSome (find_place q places) → q % 32 < 4
  placed_low q placed = elim (cases_Option (find_place q places)) [
    | inl none ↦ absurd (false≢true (sym (ap is_some none) ∙ placed))
    | inr p ↦ let (above, below) = low q (folder_kind p.0.sort q (h.kinds q p.0 p.1)) in below
  ]

  -- each object belongs where it stands
  belongs_is : (q : ℕ) (o : Object) → fits_id q o ≡ true → IsOwned N places q → BelongsAt places q o
  belongs_is q (Message m) fits is = tt
  belongs_is q (Context c) fits (inl (inl same)) = inl same
  belongs_is q (Context c) fits (inl (inr same)) = inr (inl same)
  belongs_is q (Context c) fits (inr (inl placed)) = inr (inr placed)
  belongs_is q (Context c) fits (inr (inr (f, p, x))) =
      absurd (elim (beside_high N f q x) [ inl more ↦ let less = context_low q c fits in omega arith | inr four ↦ context_apart q c fits (inl four) ])
  belongs_is q (Bare parent) fits (inl fixed) = let six = bare_id q parent fits in let one = fixed_kind q fixed in absurd (omega arith)
  belongs_is q (Bare parent) fits (inr (inl placed)) = let six = bare_id q parent fits in let less = placed_low q placed in absurd (omega arith)
  belongs_is q (Bare parent) fits (inr (inr (f, p, x))) =
      let six = bare_id q parent fits in
      absurd (elim (beside_high N f q x) [ inl more ↦ omega arith | inr four ↦ omega arith ])
  belongs_is q (Table t) fits (inl fixed) = let more = table_id q t fits in let one = fixed_kind q fixed in absurd (omega arith)
  belongs_is q (Table t) fits (inr (inl placed)) = let more = table_id q t fits in let less = placed_low q placed in absurd (omega arith)
  belongs_is q (Table t) fits (inr (inr (f, p, inl same))) = (f, p, inl same)
  belongs_is q (Table t) fits (inr (inr (f, p, inr (inl same)))) = (f, p, inr (inl same))
  belongs_is q (Table t) fits (inr (inr (f, p, inr (inr (inl x))))) = (f, p, inr (inr x.0))
  belongs_is q (Table t) fits (inr (inr (f, p, inr (inr (inr x))))) = let more = table_id q t fits in let four = x.3 in absurd (omega arith)

  is_found : IsFound tree
  is_found = record {
    listed = λ f p t r s e plain is row names. h.listed f p r e plain (t, (stands (hierarchy f) (Table t) is).0, row) s (sym (named r) ∙ names);
    reached = h.reached;
    owned = λ q o e. belongs_is q o (stands q o e).1 (belongs q o e);
  }

  shows : Shows N tree
  shows = record { tree = h; at = at; typed = λ q o e. (stands q o e).1; owned = λ q. (λ is. owns q (object_at tree q) refl is, λ is. has q is) }
    where
      owns : (q : ℕ) (o : Option Object) → object_at tree q ≡ o → IsSome o → IsOwned N places q
      owns q None e is = absurd (false≢true is)
      owns q (Some o) e is = belongs q o e

-- nodes that have a tree show one, which is whole, and which an opening finds
pub shows_tree : (N : Nodes) (places : List FolderPlace) (last : List ℕ) → HasTree N places → (T : Tree) × (T.places ≡ places) × (T.last ≡ last) × Shows N T × IsWhole T × IsFound T
shows_tree N places last h =
    (tree N places last h, refl, refl, shows N places last h, record { objects = are_whole N places last h; no_stray = no_stray N places last h }, is_found N places last h)
