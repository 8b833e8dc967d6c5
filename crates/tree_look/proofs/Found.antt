-- Answers of looks at single nodes, and what is at most once.
use Rattle.std.proofs.Common.{◌≡◌, ◌⊎◌, inl, inr, ⊎_elim, ◌∙◌, ℕ, zero, suc, ◌%◌, ◌==◌, ◌<◌, ◌≤◌, ◌+◌, Bool, true, List, [], ◌∷◌, length, get_or, drop, drop-cons, add-one, is_some, Option, None, Some, IsSome, Result, Ok, Err, IfErr, arith, refl, sym, subst, ap}
use Rattle.std.proofs.lemmas.Bool.{cases_Bool, eqb-true, eq-eqb}
use Rattle.std.proofs.lemmas.List.{drop_all}
use Rattle.std.proofs.lemmas.Option.{none-some, same_Some}
use Rattle.pst_base.specs.declared.ids.Nid.{Nid}
use Rattle.pst_base.specs.declared.stops.MemOr.{MemOr}
use Rattle.pst_base.specs.declared.stops.MemOr.TheVariants as or_memory
use Rattle.mail_objects.specs.Answers.{Refuses}
use Rattle.mail_objects.specs.declared.message.fault.MessageFault.{MessageFault}
use Rattle.mapi_values.specs.Tables.{find_row}
use Rattle.mapi_values.specs.Values.{Val}
use Rattle.mail_objects.specs.Forms.{Ctx, Tbl}
use Rattle.mail_objects.specs.Objects.{ShowsTable}
use Rattle.mail_objects.proofs.OneLaws.{one-table}
use Rattle.mail_tree.specs.Found.{StandsBelow}
use Rattle.mail_tree.specs.Places.{find_place, is_plain_sort}
use Rattle.mail_tree.specs.Whole.{kind_of_sort}
use Rattle.mail_tree.specs.declared.places.FolderPlace.{FolderPlace}
use Rattle.mail_tree.specs.declared.places.Sort.{Sort}
use Rattle.mail_tree.specs.declared.places.Sort.TheVariants.{Plain, Foreign}
use Rattle.node_port.specs.Nodes.{Nodes, node_at}
use Rattle.node_port.specs.Stops.{Room}
use Rattle.pst_outside.specs.World.{World}
use Rattle.pst_outside.specs.Calls.{Untouched}
use Rattle.node_port.specs.declared.node.NodeRec.{NodeRec}
use Rattle.mail_tree.specs.Standing.{HasContext, HasTable, names_sort}
use Rattle.std.specs.Result.{IsErrAnd}
use Rattle.tree_look.specs.Faults.{Finds, HoldNames, IsFormless, IsReached, IsTreeFault, Stops}
use Rattle.tree_look.specs.Stops.{formless, sort_with}
use Rattle.tree_look.specs.Walk.{Comes, IsCaused, Looks}
use Rattle.tree_look.specs.declared.stops.LookRefusal.TheVariants as refusals
use Rattle.tree_look.specs.declared.stops.LookStop.{LookStop}
use Rattle.tree_look.specs.declared.stops.LookStop.TheVariants as stops
use Rattle.tree_look.specs.declared.stops.TreeFault.{TreeFault}

-- a node that should be of a form wasn't read as such
pub formless_found : (N : Nodes) (q : Nid) (e : LookStop) (found : Option NodeRec) (node : NodeRec) (why : MemOr MessageFault) (P : MessageFault → Type 0) → e ≡ formless q why → found ≡ node_at N q.bits → found ≡ Some node
    → Refuses P why → ((fault : MessageFault) → P fault → IsFormless N q.bits node fault) → Stops N e
formless_found N q e found node or_memory.Memory P is at some refuses so = rw is tt
formless_found N q e found node (or_memory.Refused fault) P is at some refuses so = rw is (node, sym at ∙ some, so fault refuses)

-- which is no fault of a disk
pub formless_caused : (disk : Bool) (before after : ℕ) (q : Nid) (e : LookStop) (why : MemOr MessageFault) → e ≡ formless q why → IsCaused disk before after e
formless_caused disk before after q e or_memory.Memory is = rw is tt
formless_caused disk before after q e (or_memory.Refused fault) is = rw is tt

pub unfit_found : (N : Nodes) (q : Nid) (fault : TreeFault) (e : LookStop) → e ≡ stops.Refused (refusals.Tree q fault) → IsTreeFault N q.bits fault → Stops N e
unfit_found N q fault e is so = rw is so

-- values of the node of names that hold none
pub names_stop : (N : Nodes) (c : Ctx) (e : LookStop) → HasContext N 0x61 c → HoldNames c.props (Err e) → Stops N e
names_stop N c (stops.Refused refusals.Names) has lacks = (c, has, lacks)
names_stop N c (stops.Refused (refusals.Node q fault)) has lacks = absurd lacks
names_stop N c (stops.Refused (refusals.Tree q fault)) has lacks = absurd lacks
names_stop N c stops.Fault has lacks = tt
names_stop N c (stops.Changed ib stored computed) has lacks = absurd lacks
names_stop N c stops.Memory has lacks = tt

-- which is no fault of a disk
pub names_caused : {A : Type 0} (disk : Bool) (before after : ℕ) (props : List Val) (e : LookStop) (result : Result A LookStop) → HoldNames props (Err e) → IsErrAnd result (λ x. x ≡ e) → IfErr result (IsCaused disk before after)
names_caused disk before after props e (Ok y) lacks h = tt
names_caused disk before after props e (Err x) lacks h = rw h (caused e lacks)
  where
    caused : (e : LookStop) → HoldNames props (Err e) → IsCaused disk before after e
    caused (stops.Refused refusal) lacks = tt
    caused stops.Fault lacks = absurd lacks
    caused (stops.Changed ib stored computed) lacks = tt
    caused stops.Memory lacks = tt

-- a stop that is passed on
pub stops_on : {A : Type 0} (N : Nodes) (P : A → Type 0) (stop : LookStop) (result : Result A LookStop) → IsErrAnd result (λ e. e ≡ stop) → Stops N stop → Finds N P result
stops_on N P stop (Ok y) h s = absurd h
stops_on N P stop (Err e) h s = rw h s

-- a folder that a row names is there
pub named_there : (N : Nodes) (row : ℕ) (s : Sort) (node : NodeRec) → sort_with row ≡ Some s → node_at N row ≡ Some node → names_sort N row ≡ Some s
named_there N row s node sort at = elim (cases_Bool (row % 32 == 2)) [
  | inl t ↦ rw t (rw t at sort)
  | inr f ↦ rw f (elim (cases_Bool (row % 32 == 3)) [ inl t ↦ rw (t, at) (rw (f, t) at sort) | inr g ↦ absurd (none-some s (rw (f, g) at sort)) ])
]

pub is_reached : (N : Nodes) (above : Option Nid) (n row : ℕ) (s : Sort) → Comes N above n row → names_sort N row ≡ Some s → IsReached N n row
is_reached N None n row s comes named = subst (λ k. IsReached N k row) (sym comes.0) comes.1
is_reached N (Some p) n row s comes named = subst (λ k. IsReached N k row) (sym comes.1) (p.bits, comes.2, comes.3, comes.4, (s, named))

pub too_deep : (N : Nodes) (above : Option Nid) (n row left : ℕ) (s : Sort) → n + left ≡ 65 → left ≡ 0 → Comes N above n row → names_sort N row ≡ Some s → IsReached N 65 row
too_deep N above n row left s sum none comes named =
    let all : n ≡ 65 = omega (arith, sum, none) in
    subst (λ k. IsReached N k row) all (is_reached N above n row s comes named)

pub one_table_at : (N : Nodes) (q : ℕ) (a b : Tbl) → HasTable N q a → HasTable N q b → a ≡ b
one_table_at N q a b s t = one-table s.0 a b s.2 (subst (λ (n : NodeRec). ShowsTable n b) (same_Some t.0 s.0 (sym t.1 ∙ s.1)) t.2)

-- the kind of a folder that a row names
pub names_kind : (N : Nodes) (r : ℕ) (s : Sort) → names_sort N r ≡ Some s → r % 32 ≡ kind_of_sort s
names_kind N r s e = elim (cases_Bool (r % 32 == 2)) [
  | inl t ↦ subst (λ x. r % 32 ≡ kind_of_sort x) (same_Some Plain s (rw t at e)) (eqb-true (r % 32) 2 t)
  | inr f ↦ elim (cases_Bool (r % 32 == 3)) [
    | inl t ↦ elim (cases_Bool (is_some (node_at N r))) [
      | inl u ↦ subst (λ x. r % 32 ≡ kind_of_sort x) (same_Some Foreign s (rw (f, t, u) at e)) (eqb-true (r % 32) 3 t)
      | inr u ↦ absurd (none-some s (rw (f, t, u) at e))
    ]
    | inr g ↦ absurd (none-some s (rw (f, g) at e))
  ]
]

pub plain_kind : (s : Sort) (k : ℕ) → k ≡ kind_of_sort s → k ≡ 2 → is_plain_sort s ≡ true
plain_kind Plain k e two = refl
plain_kind Foreign k e two = absurd (omega (arith, e, two))

-- where folders stand they stand still among more
pub below_kept : (old new : List FolderPlace) → ((f : ℕ) (p : FolderPlace) → find_place f old ≡ Some p → find_place f new ≡ Some p) → (n f : ℕ) → StandsBelow old n f → StandsBelow new n f
below_kept old new kept zero f is = is
below_kept old new kept (suc n) f is = (is.0, (is.1.0, kept f is.1.0 is.1.1, below_kept old new kept n (is.1.0).parent.bits is.1.2))

-- and each stands at one depth
pub one_depth : (places : List FolderPlace) (n m f : ℕ) → StandsBelow places n f → StandsBelow places m f → n ≡ m
one_depth places zero zero f a b = refl
one_depth places zero (suc m) f a b = absurd (b.0 a)
one_depth places (suc n) zero f a b = absurd (a.0 b)
one_depth places (suc n) (suc m) f a b =
    let same : b.1.0 ≡ a.1.0 = same_Some b.1.0 a.1.0 (sym b.1.1 ∙ a.1.1) in
    ap suc (one_depth places n m (a.1.0).parent.bits a.1.2 (subst (λ (p : FolderPlace). StandsBelow places m p.parent.bits) same b.1.2))

pub row_here : (rows : List (ℕ × List Val)) (i : ℕ) (d : ℕ × List Val) → i < length rows → IsSome (find_row ((get_or rows i d).0) rows)
row_here [] i d h = absurd (omega arith)
row_here (x ∷ xs) zero d h = rw (eq-eqb x.0 x.0 refl) refl
row_here (x ∷ xs) (suc i) d h = elim (cases_Bool (x.0 == (get_or xs i d).0)) [ inl t ↦ rw t refl | inr t ↦ rw t (row_here xs i d (omega arith)) ]

-- each of the rows before i has P
pub next_row : (P : ℕ → Type 0) (rows : List (ℕ × List Val)) (i : ℕ) (d : ℕ × List Val) → i < length rows → ((m : ℕ) → IsSome (find_row m rows) → P m ⊎ IsSome (find_row m (drop i rows))) → P ((get_or rows i d).0)
    → (m : ℕ) → IsSome (find_row m rows) → P m ⊎ IsSome (find_row m (drop (i + 1) rows))
next_row P rows i d h so_far is m row =
    ⊎_elim inl (λ left. next m (get_or rows i d) (drop (suc i) rows) (drop (i + 1) rows) (ap (λ n. drop n rows) (add-one i)) is (rw (drop-cons rows i d h) at left)) (so_far m row)
  where
    next : (r : ℕ) (x : ℕ × List Val) (rest rest' : List (ℕ × List Val)) → rest' ≡ rest → P x.0 → IsSome (find_row r (x ∷ rest)) → P r ⊎ IsSome (find_row r rest')
    next r x rest rest' e p left = elim (cases_Bool (x.0 == r)) [
      | inl t ↦ inl (subst P (eqb-true x.0 r t) p)
      | inr t ↦ inr (rw e (rw t at left))
    ]

pub last_row : (P : ℕ → Type 0) (rows : List (ℕ × List Val)) (i : ℕ) → length rows ≤ i → ((m : ℕ) → IsSome (find_row m rows) → P m ⊎ IsSome (find_row m (drop i rows))) → (m : ℕ) → IsSome (find_row m rows) → P m
last_row P rows i h so_far m row = ⊎_elim (λ p. p) (λ left. absurd (none_left (subst (λ x. IsSome (find_row m x)) (drop_all i rows h) left))) (so_far m row)
  where
    none_left : IsSome (find_row m []) → ⊥
    none_left never = cc

-- the world is as it was
pub untouched_same : (v : World) → Untouched v v
untouched_same v = record {
  counts = record { in_faults = omega arith; out_faults = omega arith; disk_faults = omega arith };
  stays = record { written = refl; told = λ t. t; here = λ t. refl; input = λ t. refl };
  keeps_told = λ t. t;
  crash = λ c l. l;
  time = record { later = omega arith; nothing_else = λ t c le l. inl l; keeps = λ t c le l. l };
}

-- two calls that change nothing
pub untouched_then : {a b c : World} → Untouched a b → Untouched b c → Untouched a c
untouched_then {a} {b} {c} first then = record {
  counts = record {
    in_faults = omega (arith, first.counts.in_faults, then.counts.in_faults);
    out_faults = omega (arith, first.counts.out_faults, then.counts.out_faults);
    disk_faults = omega (arith, first.counts.disk_faults, then.counts.disk_faults);
  };
  stays = record {
    written = then.stays.written ∙ first.stays.written;
    told = λ told. first.stays.told (then.stays.told told);
    here = λ told. then.stays.here told ∙ first.stays.here (then.stays.told told);
    input = λ told. then.stays.input told ∙ first.stays.input (then.stays.told told);
  };
  keeps_told = λ told. then.keeps_told (first.keeps_told told);
  crash = λ i left. first.crash i (then.crash i left);
  time = record {
    later = omega (arith, first.time.later, then.time.later);
    nothing_else = λ t i le left.
        ⊎_elim
        (λ before. ⊎_elim inl (λ now. inl (a.counts_now t i le (first.crash i now))) (first.time.nothing_else t i le before))
        inr
        (then.time.nothing_else t i (omega (arith, le, first.time.later)) left);
    keeps = λ t i le left. then.time.keeps t i (omega (arith, le, first.time.later)) (first.time.keeps t i le left);
  };
}

-- no call
pub looks_same : (holds : Nodes → Type 0) (last : List ℕ) (room : Room) (v : World) → Looks holds holds last last room room v v
looks_same holds last room v = record { stays = λ N h. h; counters = refl; space = refl; world = untouched_same v }

-- one call and then another that only look
pub looks_then : {h h' h'' : Nodes → Type 0} {l l' l'' : List ℕ} {r r' r'' : Room} {a b c : World} → Looks h h' l l' r r' a b → Looks h' h'' l' l'' r' r'' b c → Looks h h'' l l'' r r'' a c
looks_then first then' = record {
  stays = λ N held. then'.stays N (first.stays N held);
  counters = then'.counters ∙ first.counters;
  space = then'.space ∙ first.space;
  world = untouched_then first.world then'.world;
}
