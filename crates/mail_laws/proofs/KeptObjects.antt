-- What the changes of a command leave of the objects that stood: what holds of them after each step.
use Rattle.std.proofs.Common.{◌≡◌, ℕ, ◌%◌, ◌==◌, Bool, true, false, List, Option, None, Some, IsSome, arith, refl, sym, subst, ap, ◌∙◌, inl, inr, ◌||◌}
use Rattle.std.proofs.lemmas.Bool.{cases_eq, eq-eqb, ne_eqb, false≢true}
use Rattle.std.proofs.lemmas.Option.{none-some, same_Some}
use Rattle.std.specs.Cmp.{nat_cmp_total}
use Rattle.std.specs.Ordering.{nat_cmp}
use Rattle.std.specs.FinMap as map
use Rattle.node_port.specs.Nodes.{node_at}
use Rattle.mapi_values.specs.Tables.{find_row}
use Rattle.mapi_values.specs.Values.{Val}
use Rattle.mail_objects.specs.Forms.{Ctx, Tbl}
use Rattle.mail_objects.specs.declared.object.Object.{Object}
use Rattle.mail_objects.specs.declared.object.Object.TheVariants.{Context, Table, Message, Bare}
use Rattle.mail_tree.specs.Tree.{Tree, object_at}
use Rattle.mail_tree.specs.Changing.{newest, with_rows}
use Rattle.mail_laws.specs.Stays.{StaysFolder}
use Rattle.mail_tree.specs.Whole.{fits_id}
use Rattle.mail_tree.proofs.AfterTree.{tied}
use Rattle.mail_tree.proofs.Nearly.{context_id}

abbrev pub Changes : Type 0
Changes = map.FinMap nat_cmp (Option Object)

-- what stands at an id after changes
abbrev pub now : Tree → Changes → ℕ → Option Object
now T m q = newest (map.get m q) (object_at T q)

-- a folder has its values still, or is gone
abbrev pub KeepsFolder : Bool → Ctx → Option Object → Type 0
KeepsFolder named old None = Unit {0}
KeepsFolder named old (Some (Context new)) = StaysFolder named old new
KeepsFolder named old (Some (Table t)) = ⊥
KeepsFolder named old (Some (Message m)) = ⊥
KeepsFolder named old (Some (Bare parent)) = ⊥

-- the same table, with the rows of these ids
pub record SameTable (R : ℕ → Type 0) (old new : Tbl) : Type 0 where
  pub parent : new.parent ≡ old.parent
  pub columns : new.table.columns ≡ old.table.columns
  pub ends : new.table.ends ≡ old.table.ends
  pub kept : new.table.kept ≡ old.table.kept
  pub rows : (r : ℕ) → R r → find_row r new.table.rows ≡ find_row r old.table.rows

-- a table has those rows still, or is gone
abbrev pub KeepsTable : (ℕ → Type 0) → Tbl → Option Object → Type 0
KeepsTable R old None = Unit {0}
KeepsTable R old (Some (Table new)) = SameTable R old new
KeepsTable R old (Some (Context c)) = ⊥
KeepsTable R old (Some (Message m)) = ⊥
KeepsTable R old (Some (Bare parent)) = ⊥

-- no object stood at the id, and nothing changed there
abbrev pub Untouched : Tree → Changes → ℕ → Type 0
Untouched T m r = (object_at T r ≡ None) × (map.get m r ≡ None)

-- which folders a command gives names, what it takes away, what it brings, and whether it may add a name of a property
pub record Scope : Type 0 where
  pub names : ℕ → Bool
  pub takes : ℕ → Bool
  pub brings : ℕ → Bool
  pub adds_name : Bool

-- ids of this kind are those of folders, of their tables and of messages
abbrev pub is_usual : ℕ → Bool
is_usual kind = (kind == 2) || ((kind == 4) || ((kind == 13) || ((kind == 14) || (kind == 15))))

-- what holds after each step
pub record KeepsObjects (T : Tree) (scope : Scope) (m : Changes) : Type 0 where
  -- where no object stood, one comes, and no other node stood
  pub clear : (q : ℕ) (o : Option Object) → map.get m q ≡ Some o → object_at T q ≡ None → IsSome o × (node_at T.others q ≡ None)
  pub folders : (f : ℕ) (old : Ctx) → (f ≡ 0x61 → ⊥) → object_at T f ≡ Some (Context old) → KeepsFolder (scope.names f) old (now T m f)
  pub tables : (q : ℕ) (old : Tbl) → object_at T q ≡ Some (Table old) → KeepsTable (Untouched T m) old (now T m q)
  -- nothing changes elsewhere, but that names may
  pub apart : (q : ℕ) → is_usual (q % 32) ≡ false → (q ≡ 0x61 → ⊥) → map.get m q ≡ None
  pub names : scope.adds_name ≡ false → map.get m 0x61 ≡ None
  pub goes : (q : ℕ) → map.get m q ≡ Some None → scope.takes q ≡ true
  pub comes : (q : ℕ) (o : Option Object) → map.get m q ≡ Some o → object_at T q ≡ None → scope.brings q ≡ true

-- what is put, or removed, at an id has to meet
pub record Fits (T : Tree) (scope : Scope) (m : Changes) (q : ℕ) (o : Option Object) : Type 0 where
  pub clear : object_at T q ≡ None → IsSome o × (node_at T.others q ≡ None)
  pub folder : (old : Ctx) → object_at T q ≡ Some (Context old) → KeepsFolder (scope.names q) old o
  pub table : (old : Tbl) → object_at T q ≡ Some (Table old) → KeepsTable (Untouched T (map.insert m q o)) old o
  pub usual : is_usual (q % 32) ≡ true
  pub goes : o ≡ None → scope.takes q ≡ true
  pub comes : object_at T q ≡ None → scope.brings q ≡ true

-- an id of a usual kind is none of another
unusual_apart : (q r : ℕ) → is_usual (r % 32) ≡ true → is_usual (q % 32) ≡ false → q ≡ r → ⊥
unusual_apart q r usual other same = false≢true (sym other ∙ ap (λ x. is_usual (x % 32)) same ∙ usual)

-- so it isn't that of the names
no_names : (q : ℕ) → is_usual (q % 32) ≡ true → q ≡ 0x61 → ⊥
no_names q usual same = unusual_apart 0x61 q usual refl (sym same)

got_here : (m : Changes) (q : ℕ) (o : Option Object) → map.get (map.insert m q o) q ≡ Some o
got_here m q o = rw (map.get-insert nat_cmp_total m q o q, tied true q q (eq-eqb q q refl)) refl

got_other : (m : Changes) (q : ℕ) (o : Option Object) (x : ℕ) → (x ≡ q → ⊥) → map.get (map.insert m q o) x ≡ map.get m x
got_other m q o x other = rw (map.get-insert nat_cmp_total m q o x, tied false x q (ne_eqb x q other)) refl

-- what changed has changed still
untouched_before : (T : Tree) (m : Changes) (q : ℕ) (o : Option Object) (r : ℕ) → Untouched T (map.insert m q o) r → Untouched T m r
untouched_before T m q o r u = (
  u.0,
  elim (cases_eq r q) [
    | inl same ↦ absurd (none-some o (sym u.1 ∙ ap (map.get (map.insert m q o)) same ∙ got_here m q o))
    | inr other ↦ sym (got_other m q o r other) ∙ u.1
  ],
)

pub touched_still : (T : Tree) (m : Changes) (q : ℕ) (o : Option Object) (r : ℕ) → (Untouched T m r → ⊥) → Untouched T (map.insert m q o) r → ⊥
touched_still T m q o r touched u = touched (untouched_before T m q o r u)

pub touched_here : (T : Tree) (m : Changes) (q : ℕ) (o : Option Object) → Untouched T (map.insert m q o) q → ⊥
touched_here T m q o u = none-some o (sym u.1 ∙ got_here m q o)

-- fewer rows are the same
fewer : (R S : ℕ → Type 0) (old : Tbl) (o : Option Object) → ((r : ℕ) → S r → R r) → KeepsTable R old o → KeepsTable S old o
fewer R S old None less k = tt
fewer R S old (Some (Table t)) less k = record { parent = k.parent; columns = k.columns; ends = k.ends; kept = k.kept; rows = λ r s. k.rows r (less r s) }
fewer R S old (Some (Context c)) less k = k
fewer R S old (Some (Bare parent)) less k = k
fewer R S old (Some (Message M)) less k = k

-- before any change
pub keeps_all : (T : Tree) (scope : Scope) → KeepsObjects T scope map.empty
keeps_all T scope = record {
  clear = λ q o e none. absurd (none-some o (sym (map.get-empty nat_cmp q) ∙ e));
  folders = λ f old no_names is. subst (KeepsFolder (scope.names f) old) (sym (start f ∙ is)) (record { kept = refl; values = λ id count name. refl });
  tables = λ q old is. subst (KeepsTable (Untouched T map.empty) old) (sym (start q ∙ is)) (record { parent = refl; columns = refl; ends = refl; kept = refl; rows = λ r u. refl });
  apart = λ q other no_names. map.get-empty nat_cmp q;
  names = λ none. map.get-empty nat_cmp 0x61;
  goes = λ q e. absurd (none-some None (sym (map.get-empty nat_cmp q) ∙ e));
  comes = λ q o e none. absurd (none-some o (sym (map.get-empty nat_cmp q) ∙ e));
}
  where
    start : (q : ℕ) → now T map.empty q ≡ object_at T q
    start q = ap (λ r. newest r (object_at T q)) (map.get-empty nat_cmp q)

-- what stands there may be put as it is
pub fits_same : (T : Tree) (scope : Scope) (m : Changes) (q : ℕ) (o : Object) → KeepsObjects T scope m → is_usual (q % 32) ≡ true → now T m q ≡ Some o → Fits T scope m q (Some o)
fits_same T scope m q o k usual is = record {
  clear = λ none. k.clear q (Some o) (changed none) none;
  folder = λ old at. subst (KeepsFolder (scope.names q) old) is (k.folders q old (no_names q usual) at);
  table = λ old at. subst (KeepsTable (Untouched T (map.insert m q (Some o))) old) is (fewer (Untouched T m) (Untouched T (map.insert m q (Some o))) old (now T m q) (untouched_before T m q (Some o)) (k.tables q old at));
  usual = usual;
  goes = λ e. absurd (none-some o (sym e));
  comes = λ none. k.comes q (Some o) (changed none) none;
}
  where
    put : (x : Option (Option Object)) → newest x None ≡ Some o → x ≡ Some (Some o)
    put None e = cc
    put (Some y) e = ap (λ z. Some z) e

    changed : object_at T q ≡ None → map.get m q ≡ Some (Some o)
    changed none = put (map.get m q) (ap (λ z. newest (map.get m q) z) (sym none) ∙ is)

-- after one more change
pub keeps_more : (T : Tree) (scope : Scope) (m : Changes) (q : ℕ) (o : Option Object) → KeepsObjects T scope m → Fits T scope m q o → KeepsObjects T scope (map.insert m q o)
keeps_more T scope m q o k fits = record {
  clear = λ x y e none. elim (cases_eq x q) [
    | inl same ↦
        let is : o ≡ y = same_Some o y (sym (got_here m q o) ∙ ap (map.get (map.insert m q o)) (sym same) ∙ e) in
        let c = fits.clear (ap (object_at T) (sym same) ∙ none) in
        (subst IsSome is c.0, ap (node_at T.others) same ∙ c.1)
    | inr other ↦ k.clear x y (sym (got_other m q o x other) ∙ e) none
  ];
  folders = λ f old no_names is. elim (cases_eq f q) [
    | inl same ↦ subst (KeepsFolder (scope.names f) old) (sym (here f same)) (subst (λ x. KeepsFolder (scope.names x) old o) (sym same) (fits.folder old (ap (object_at T) (sym same) ∙ is)))
    | inr other ↦ subst (KeepsFolder (scope.names f) old) (sym (elsewhere f other)) (k.folders f old no_names is)
  ];
  tables = λ x old is. elim (cases_eq x q) [
    | inl same ↦ subst (KeepsTable (Untouched T (map.insert m q o)) old) (sym (here x same)) (fits.table old (ap (object_at T) (sym same) ∙ is))
    | inr other ↦ subst (KeepsTable (Untouched T (map.insert m q o)) old) (sym (elsewhere x other)) (fewer (Untouched T m) (Untouched T (map.insert m q o)) old (now T m x) (untouched_before T m q o) (k.tables x old is))
  ];
  apart = λ x other no_names. got_other m q o x (unusual_apart x q fits.usual other) ∙ k.apart x other no_names;
  names = λ none. got_other m q o 0x61 (λ e. no_names q fits.usual (sym e)) ∙ k.names none;
  goes = λ x e. elim (cases_eq x q) [
    | inl same ↦ subst (λ z. scope.takes z ≡ true) (sym same) (fits.goes (same_Some o None (sym (got_here m q o) ∙ ap (map.get (map.insert m q o)) (sym same) ∙ e)))
    | inr other ↦ k.goes x (sym (got_other m q o x other) ∙ e)
  ];
  comes = λ x y e none. elim (cases_eq x q) [
    | inl same ↦ subst (λ z. scope.brings z ≡ true) (sym same) (fits.comes (ap (object_at T) (sym same) ∙ none))
    | inr other ↦ k.comes x y (sym (got_other m q o x other) ∙ e) none
  ];
}
  where
    here : (x : ℕ) → x ≡ q → now T (map.insert m q o) x ≡ o
    here x same = ap (λ r. newest r (object_at T x)) (ap (map.get (map.insert m q o)) same ∙ got_here m q o)

    elsewhere : (x : ℕ) → (x ≡ q → ⊥) → now T (map.insert m q o) x ≡ now T m x
    elsewhere x other = ap (λ r. newest r (object_at T x)) (got_other m q o x other)

-- what stands where no object stood came by a change
came : (g : Option (Option Object)) (old : Option Object) (x : Object) → newest g old ≡ Some x → old ≡ None → (o : Option Object) × (g ≡ Some o)
came None old x is none = absurd (none-some x (sym none ∙ is))
came (Some o) old x is none = (o, refl)

-- so no other node stood there
came_free : (T : Tree) (scope : Scope) (m : Changes) (q : ℕ) (x : Object) → KeepsObjects T scope m → now T m q ≡ Some x → object_at T q ≡ None → node_at T.others q ≡ None
came_free T scope m q x k is none = let c = came (map.get m q) (object_at T q) x is none in (k.clear q c.0 c.1 none).1

came_brings : (T : Tree) (scope : Scope) (m : Changes) (q : ℕ) (x : Object) → KeepsObjects T scope m → now T m q ≡ Some x → object_at T q ≡ None → scope.brings q ≡ true
came_brings T scope m q x k is none = let c = came (map.get m q) (object_at T q) x is none in k.comes q c.0 c.1 none

-- a table gets other rows, of which that of one id changes: an object stood there, or something changed there
pub fits_rows : (T : Tree) (scope : Scope) (m : Changes) (q id : ℕ) (t : Tbl) (rows : List (ℕ × List Val)) → KeepsObjects T scope m → now T m q ≡ Some (Table t) → is_usual (q % 32) ≡ true → (Untouched T m id → ⊥)
    → ((r : ℕ) → (r ≡ id → ⊥) → find_row r rows ≡ find_row r t.table.rows) → Fits T scope m q (Some (with_rows rows t))
fits_rows T scope m q id t rows k is usual touched same = record {
  clear = λ none. (refl, came_free T scope m q (Table t) k is none);
  folder = λ old was. absurd (subst (KeepsFolder (scope.names q) old) is (k.folders q old (no_names q usual) was));
  table = λ old was.
      let s : SameTable (Untouched T m) old t = subst (KeepsTable (Untouched T m) old) is (k.tables q old was) in
      record {
        parent = s.parent;
        columns = s.columns;
        ends = s.ends;
        kept = s.kept;
        rows = λ r u.
            let before = untouched_before T m q (Some (with_rows rows t)) r u in
            same r (λ e. touched (subst (Untouched T m) e before)) ∙ s.rows r before;
      };
  usual = usual;
  goes = λ e. absurd (none-some (with_rows rows t) (sym e));
  comes = λ none. came_brings T scope m q (Table t) k is none;
}

-- a folder gets other values, or another parent
pub fits_context : (T : Tree) (scope : Scope) (m : Changes) (f : ℕ) (c new : Ctx) → KeepsObjects T scope m → now T m f ≡ Some (Context c) → is_usual (f % 32) ≡ true → StaysFolder (scope.names f) c new → Fits T scope m f (Some (Context new))
fits_context T scope m f c new k is usual stays = record {
  clear = λ none. (refl, came_free T scope m f (Context c) k is none);
  folder = λ old was.
      let s : StaysFolder (scope.names f) old c = subst (KeepsFolder (scope.names f) old) is (k.folders f old (no_names f usual) was) in
      record { kept = stays.kept ∙ s.kept; values = λ id count name. stays.values id count name ∙ s.values id count name };
  table = λ old was. absurd (subst (KeepsTable (Untouched T m) old) is (k.tables f old was));
  usual = usual;
  goes = λ e. absurd (none-some (Context new) (sym e));
  comes = λ none. came_brings T scope m f (Context c) k is none;
}

-- tables stand at ids of four kinds
no_table : (q : ℕ) (t : Tbl) → q % 32 ≡ 4 → fits_id q (Table t) ≡ true → ⊥
no_table q t four e = absurd (false≢true (sym (rw four refl) ∙ e))

no_context : (q : ℕ) (c : Ctx) → q % 32 ≡ 4 → fits_id q (Context c) ≡ true → ⊥
no_context q c four e = elim (context_id q c e) [ inl a ↦ omega arith | inr b ↦ elim b [ inl a ↦ omega arith | inr d ↦ elim d [ inl a ↦ omega arith | inr a ↦ omega arith ] ] ]

-- a message comes, changes or goes
pub fits_message : (T : Tree) (scope : Scope) (m : Changes) (q : ℕ) (o : Option Object) → ((x : Object) → object_at T q ≡ Some x → fits_id q x ≡ true) → q % 32 ≡ 4
    → (object_at T q ≡ None → IsSome o × (node_at T.others q ≡ None)) → (o ≡ None → scope.takes q ≡ true) → (object_at T q ≡ None → scope.brings q ≡ true) → Fits T scope m q o
fits_message T scope m q o typed four clear takes brings = record {
  goes = takes;
  comes = brings;
  clear = clear;
  folder = λ old was. absurd (no_context q old four (typed (Context old) was));
  table = λ old was. absurd (no_table q old four (typed (Table old) was));
  usual = rw four refl;
}

-- an object goes
pub fits_gone : (T : Tree) (scope : Scope) (m : Changes) (q : ℕ) → (object_at T q ≡ None → ⊥) → is_usual (q % 32) ≡ true → scope.takes q ≡ true → Fits T scope m q None
fits_gone T scope m q there usual takes = record { goes = λ e. takes; comes = λ none. absurd (there none); clear = λ none. absurd (there none); folder = λ old was. tt; table = λ old was. tt; usual = usual }

-- an object comes where nothing stood
pub fits_new : (T : Tree) (scope : Scope) (m : Changes) (q : ℕ) (x : Object) → object_at T q ≡ None → node_at T.others q ≡ None → is_usual (q % 32) ≡ true → scope.brings q ≡ true → Fits T scope m q (Some x)
fits_new T scope m q x none free usual brings = record {
  goes = λ e. absurd (none-some x (sym e));
  comes = λ e. brings;
  clear = λ e. (refl, free);
  folder = λ old was. absurd (none-some (Context old) (sym none ∙ was));
  table = λ old was. absurd (none-some (Table old) (sym none ∙ was));
  usual = usual;
}

-- the names get a name
pub keeps_names : (T : Tree) (scope : Scope) (c new : Ctx) → object_at T 0x61 ≡ Some (Context c) → scope.adds_name ≡ true → KeepsObjects T scope (map.insert map.empty 0x61 (Some (Context new)))
keeps_names T scope c new is adds = record {
  clear = λ q x e none. elim (cases_eq q 0x61) [
    | inl same ↦ absurd (none-some (Context c) (sym none ∙ ap (object_at T) same ∙ is))
    | inr other ↦ k.clear q x (sym (got_other map.empty 0x61 o q other) ∙ e) none
  ];
  folders = λ f old no_names was. subst (KeepsFolder (scope.names f) old) (sym (elsewhere f no_names)) (k.folders f old no_names was);
  tables = λ q old was. elim (cases_eq q 0x61) [
    | inl same ↦ cc (sym was ∙ ap (object_at T) same ∙ is)
    | inr other ↦ subst (KeepsTable (Untouched T (map.insert map.empty 0x61 o)) old) (sym (elsewhere q other)) (fewer (Untouched T map.empty) (Untouched T (map.insert map.empty 0x61 o)) old (now T map.empty q) (untouched_before T map.empty 0x61 o) (k.tables q old was))
  ];
  apart = λ q other no_names. got_other map.empty 0x61 o q no_names ∙ k.apart q other no_names;
  names = λ none. absurd (false≢true (sym none ∙ adds));
  goes = λ q e. elim (cases_eq q 0x61) [
    | inl same ↦ absurd (none-some (Context new) (sym (same_Some o None (sym (got_here map.empty 0x61 o) ∙ ap (map.get (map.insert map.empty 0x61 o)) (sym same) ∙ e))))
    | inr other ↦ k.goes q (sym (got_other map.empty 0x61 o q other) ∙ e)
  ];
  comes = λ q x e none. elim (cases_eq q 0x61) [
    | inl same ↦ absurd (none-some (Context c) (sym none ∙ ap (object_at T) same ∙ is))
    | inr other ↦ k.comes q x (sym (got_other map.empty 0x61 o q other) ∙ e) none
  ];
}
  where
    o : Option Object
    o = Some (Context new)

    k : KeepsObjects T scope map.empty
    k = keeps_all T scope

    elsewhere : (x : ℕ) → (x ≡ 0x61 → ⊥) → now T (map.insert map.empty 0x61 o) x ≡ now T map.empty x
    elsewhere x other = ap (λ r. newest r (object_at T x)) (got_other map.empty 0x61 o x other)
