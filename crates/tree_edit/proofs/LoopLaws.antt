-- The children of a page under edits, as far as they have come.
use Rattle.std.proofs.Common.{◌≡◌, ◌⊎◌, ⊎_elim, ℕ, zero, suc, ◌+◌, ◌-◌, ◌*◌, ◌≤◌, ◌<◌, List, [], ◌∷◌, ◌++◌, map, length, drop, refl, sym, ap, subst, ◌∙◌, arith, Option, Some, None, append_assoc, length-append}
use Rattle.std.proofs.lemmas.List.{drop_all, length-map, append-nil}
use Rattle.pst_base.specs.declared.ids.Bref.{Bref}
use Rattle.btree_pages.specs.Pages.{Page}
use Rattle.tree_edit.specs.declared.page.Seat.{Seat}
use Rattle.tree_edit.specs.declared.plan.Child.{Child}
use Rattle.tree_edit.specs.declared.plan.PlanPage.{PlanPage}
use Rattle.tree_edit.specs.Shapes.{Shape, RiseIn, heads, up_to, OneThen, AreBelow, IsTree}
use Rattle.tree_edit.specs.Edits.{edited, puts, AreEdits}
use Rattle.tree_edit.specs.Plans.{AreKeys, keys_of, tally}
use Rattle.tree_edit.specs.Joins.{StandsFor, Settles, IsJoined, IsNext, Moves, IsMost, kept_child, size_of}
use Rattle.tree_edit.specs.Steps.{Becomes, Replaces, IsRead, IsSpare}
use Rattle.tree_edit.specs.Pages.{child_in, shapes}
use Rattle.tree_edit.specs.Source.{Source, Later}
use Rattle.tree_edit.proofs.ShapeLaws.{rise-join, map-join, tree-widen, tree-rise, below-rise}
use Rattle.tree_edit.proofs.EditLaws.{rise-under, rise-over, edited-parts}
use Rattle.tree_edit.proofs.PutLaws.{puts-parts}
use Rattle.tree_edit.proofs.PlanLaws.{keys-join, tally-join}
use Rattle.tree_edit.proofs.WriteLaws.{keys-more}
use Rattle.tree_edit.proofs.CountLaws.{size-inner}
use Rattle.tree_edit.proofs.SpareLaws.{before-of, from-of}
use Rattle.tree_edit.proofs.JoinLaws.{Stage, KeptIn, kept-le, kept-rise, kept-keys, stage-start, stage-join, stage-front, stage-next, stage-end, stage-kept, becomes-pages}
use Rattle.tree_edit.proofs.RoomLaws.{IsAmple, ample-join, ample-next, IsReserve, reserve-start, reserve-kept, reserve-join, reserve-next, reserve-front, reserve-end}
use Rattle.tree_edit.proofs.StepLaws.{floor_at, Seated}

pub later-same : {A : Type 0} (s : Source A) → Later s s
later-same s = record { fails = omega arith; changes = omega arith; told = λ find h. h; since = λ first h. h }

pub later-then : {A : Type 0} {a b c : Source A} → Later a b → Later b c → Later a c
later-then {A} {a} {b} {c} x y =
    let f = x.fails in
    let g = y.fails in
    let h = x.changes in
    let k = y.changes in
    record { fails = omega arith; changes = omega arith; told = λ find t. y.told find (x.told find t); since = λ first t. y.since first (x.since first t) }

-- ---- the order of the keys

-- those of the children that are done, of one that stays and of what is held ascend, each part up to a number
pub record Order {E : Type 0} (rule : ℕ → ℕ) (key : E → ℕ) (low floor : ℕ) (out : List (ℕ × Child)) (kept : Option Seat) (entries : List E) (children : List (ℕ × Child)) : Type 0 where
  pub cut : ℕ
  pub next : ℕ
  pub least : low ≤ cut
  pub out_rise : RiseIn low cut (keys_of out)
  pub within : KeptIn rule cut next kept
  pub top : next ≤ floor
  pub entries_rise : RiseIn next floor (map key entries)
  pub children_rise : RiseIn next floor (keys_of children)
  pub out_keys : AreKeys rule (keys_of out)
  pub children_keys : AreKeys rule (keys_of children)

pub order-start : {E : Type 0} (rule : ℕ → ℕ) (key : E → ℕ) (low : ℕ) → Order rule key low low [] None [] []
order-start rule key low = record { cut = low; next = low; least = omega arith; out_rise = tt; within = omega arith; top = omega arith; entries_rise = tt; children_rise = tt; out_keys = tt; children_keys = tt }

-- all that is held is put behind the others
pub order-end : {E : Type 0} (rule : ℕ → ℕ) (key : E → ℕ) (leaf level low floor : ℕ) (old new : List (PlanPage E)) (out all : List (ℕ × Child)) (kept : Option Seat) (entries : List E) (children : List (ℕ × Child)) → Order rule key low floor out kept entries children
    → Settles key rule leaf level old new kept entries children out all → RiseIn low floor (keys_of all) × AreKeys rule (keys_of all)
order-end rule key leaf level low floor old new out all kept entries children o s =
    let least = o.least in
    let le = kept-le rule o.cut o.next kept o.within in
    let top = o.top in
    let first : RiseIn low o.next (keys_of (out ++ kept_child kept)) = subst (RiseIn low o.next) (sym (keys-join out (kept_child kept)))
    (rise-join low o.cut o.cut o.next (keys_of out) (keys_of (kept_child kept)) o.out_rise (kept-rise rule o.cut o.next kept o.within) (omega arith) (omega (arith, least)) (omega (arith, le))) in
    let whole : RiseIn low floor (keys_of ((out ++ kept_child kept) ++ s.pieces)) = subst (RiseIn low floor) (sym (keys-join (out ++ kept_child kept) s.pieces))
    (rise-join low o.next o.next floor (keys_of (out ++ kept_child kept)) (keys_of s.pieces) first (s.makes.rises o.next floor o.entries_rise o.children_rise) (omega arith) (omega (arith, least, le)) (omega (arith, top))) in (
      subst (λ (l : List (ℕ × Child)). RiseIn low floor (keys_of l)) (sym s.out) whole,
      keys-more rule (out ++ kept_child kept) s.pieces all (keys-more rule out (kept_child kept) (out ++ kept_child kept) o.out_keys (kept-keys rule o.cut o.next kept o.within) refl) s.makes.keys s.out,
    )

-- a child stays behind them
pub order-kept : {E : Type 0} (rule : ℕ → ℕ) (key : E → ℕ) (low floor high : ℕ) (all : List (ℕ × Child)) (seat : Seat) → low ≤ floor → RiseIn low floor (keys_of all) × AreKeys rule (keys_of all) → KeptIn rule floor high (Some seat) → Order rule key low high all (Some seat) [] []
order-kept rule key low floor high all seat le done within =
    record { cut = floor; next = high; least = le; out_rise = done.0; within = within; top = omega arith; entries_rise = tt; children_rise = tt; out_keys = done.1; children_keys = tt }

pub order-join : {E : Type 0} (rule : ℕ → ℕ) (key : E → ℕ) (low floor high : ℕ) (out : List (ℕ × Child)) (kept : Option Seat) (entries more_entries : List E) (children more_children : List (ℕ × Child)) → floor ≤ high
    → RiseIn floor high (map key more_entries) → RiseIn floor high (keys_of more_children) → AreKeys rule (keys_of more_children)
    → Order rule key low floor out kept entries children → Order rule key low high out kept (entries ++ more_entries) (children ++ more_children)
order-join rule key low floor high out kept entries more_entries children more_children le more_rise kids_rise keys o =
    let top = o.top in
    record {
      cut = o.cut;
      next = o.next;
      least = o.least;
      out_rise = o.out_rise;
      within = o.within;
      top = omega (arith, top, le);
      entries_rise = subst (RiseIn o.next high) (sym (map-join key entries more_entries)) (rise-join o.next floor floor high (map key entries) (map key more_entries) o.entries_rise more_rise (omega arith) (omega (arith, top)) (omega (arith, le)));
      children_rise = subst (RiseIn o.next high) (sym (keys-join children more_children)) (rise-join o.next floor floor high (keys_of children) (keys_of more_children) o.children_rise kids_rise (omega arith) (omega (arith, top)) (omega (arith, le)));
      out_keys = o.out_keys;
      children_keys = keys-more rule children more_children (children ++ more_children) o.children_keys keys refl;
    }

pub order-next : {E : Type 0} (rule : ℕ → ℕ) (key : E → ℕ) (low floor high : ℕ) (all : List (ℕ × Child)) (more_entries : List E) (more_children : List (ℕ × Child)) → low ≤ floor → floor ≤ high → RiseIn low floor (keys_of all) × AreKeys rule (keys_of all)
    → RiseIn floor high (map key more_entries) → RiseIn floor high (keys_of more_children) → AreKeys rule (keys_of more_children) → Order rule key low high all None more_entries more_children
order-next rule key low floor high all more_entries more_children least le done more_rise kids_rise keys =
    record { cut = floor; next = floor; least = least; out_rise = done.0; within = omega arith; top = le; entries_rise = more_rise; children_rise = kids_rise; out_keys = done.1; children_keys = keys }

pub order-front : {E : Type 0} (rule : ℕ → ℕ) (key : E → ℕ) (low floor : ℕ) (out : List (ℕ × Child)) (seat : Seat) (first_entries entries : List E) (first_children children : List (ℕ × Child))
    → RiseIn seat.low (seat.high + 1) (map key first_entries) → RiseIn seat.low (seat.high + 1) (keys_of first_children) → AreKeys rule (keys_of first_children)
    → Order rule key low floor out (Some seat) entries children → Order rule key low floor out None (first_entries ++ entries) (first_children ++ children)
order-front rule key low floor out seat first_entries entries first_children children first_rise kids_rise keys o =
    let a = o.within.0 in
    let b = o.within.1 in
    let c = o.within.2 in
    let d = o.within.3 in
    let top = o.top in
    record {
      cut = o.cut;
      next = seat.low;
      least = o.least;
      out_rise = o.out_rise;
      within = a;
      top = omega (arith, b, c, d, top);
      entries_rise = subst (RiseIn seat.low floor) (sym (map-join key first_entries entries)) (rise-join seat.low (seat.high + 1) o.next floor (map key first_entries) (map key entries) first_rise o.entries_rise d (omega (arith, b, c, d)) (omega (arith, d, top)));
      children_rise = subst (RiseIn seat.low floor) (sym (keys-join first_children children)) (rise-join seat.low (seat.high + 1) o.next floor (keys_of first_children) (keys_of children) kids_rise o.children_rise d (omega (arith, b, c, d)) (omega (arith, d, top)));
      out_keys = o.out_keys;
      children_keys = keys-more rule first_children children (first_children ++ children) keys o.children_keys refl;
    }

-- ---- what stands for the children

-- the children before a number are done or held, and the others are left with the edits from that number on
pub record Underway {E : Type 0} (find : Bref → Option (Shape E)) (key : E → ℕ) (most n i cut floor high : ℕ) (left : List (ℕ × Bref)) (old new : List (PlanPage E)) (freed gone : List Bref) (out : List (ℕ × Child)) (kept : Option Seat) (entries : List E)
    (children : List (ℕ × Child)) (es : List E) (ps : List Bref) (edits rest : List (ℕ × Option E)) : Type 0 where
  pub done : List E
  pub behind : List E
  pub done_pages : List Bref
  pub left_pages : List Bref
  pub stage : Stage find key n cut floor old new freed gone out kept entries children done done_pages
  pub others : AreBelow (IsTree find key n) high left behind left_pages
  pub made : edited key es edits ≡ done ++ edited key behind rest
  pub pages : (ib : ℕ) → tally ib ps ≡ tally ib done_pages + tally ib left_pages
  pub put : ℕ
  pub counted : puts key es edits ≡ put + puts key behind rest
  pub reserve : IsReserve n most i put (size_of n entries children) (length out + length (kept_child kept)) (length old) (length new) (length freed) (length gone)

-- the next child is done or held, with the edits of its span
pub underway-next : {E : Type 0} (find : Bref → Option (Shape E)) (key : E → ℕ) (most n i cut cut_now floor high : ℕ) (c : ℕ × Bref) (left : List (ℕ × Bref)) (old mid new : List (PlanPage E)) (freed between gone : List Bref) (out out_now : List (ℕ × Child)) (kept kept_now : Option Seat)
    (entries entries_now : List E) (children children_now : List (ℕ × Child)) (es : List E) (ps : List Bref) (edits rest mine others : List (ℕ × Option E))
    → floor ≤ c.0 → RiseIn (up_to high left) high (heads left) → rest ≡ mine ++ others → AreEdits key floor (up_to high left) mine → AreEdits key (up_to high left) high others
    → ((ds fs : List E) (qs rs : List Bref) → IsTree find key n c.0 (up_to high left) c.1 fs rs → Stage find key n cut floor old mid freed between out kept entries children ds qs
    → Stage find key n cut_now (up_to high left) old new freed gone out_now kept_now entries_now children_now (ds ++ edited key fs mine) (qs ++ rs))
    → ((u : ℕ) (fs : List E) (rs : List Bref) → IsTree find key n c.0 (up_to high left) c.1 fs rs
    → IsReserve n most i u (size_of n entries children) (length out + length (kept_child kept)) (length old) (length mid) (length freed) (length between)
    → IsReserve n most (i + 1) (u + puts key fs mine) (size_of n entries_now children_now) (length out_now + length (kept_child kept_now)) (length old) (length new) (length freed) (length gone))
    → Underway find key most n i cut floor high (c ∷ left) old mid freed between out kept entries children es ps edits rest
    → Underway find key most n (i + 1) cut_now (up_to high left) high left old new freed gone out_now kept_now entries_now children_now es ps edits others
underway-next {E} find key most n i cut cut_now floor high c left old mid new freed between gone out out_now kept kept_now entries entries_now children children_now es ps edits rest mine others low rising is mine_in others_in stage count u =
    let o : OneThen (IsTree find key n) (AreBelow (IsTree find key n) high left) c.0 (up_to high left) c.1 u.behind u.left_pages = u.others in
    let end : ℕ = up_to high left in
    let tree : IsTree find key n floor end c.1 o.first o.first_pages = tree-widen find key n c.0 end floor end c.1 o.first o.first_pages low (omega arith) o.one in
    let first_rises = tree-rise find key n floor end c.1 o.first o.first_pages tree in
    let later_rises = below-rise (IsTree find key n) key (λ l h at es ps t. tree-rise find key n l h at es ps t) end high left o.later o.later_pages rising o.rest in
    let both : edited key (o.first ++ o.later) (mine ++ others) ≡ edited key o.first mine ++ edited key o.later others =
    edited-parts key floor end high o.first o.later mine others (rise-under key floor end end o.first first_rises (omega arith)) (rise-over key end high end o.later later_rises (omega arith)) mine_in others_in in
    let parts : puts key (o.first ++ o.later) (mine ++ others) ≡ puts key o.first mine + puts key o.later others =
    puts-parts key (λ e. 1) floor end high o.first o.later mine others (before-of key floor end end o.first first_rises (omega arith)) (from-of key end high end o.later later_rises (omega arith)) mine_in others_in in
    let here : puts key u.behind rest ≡ puts key o.first mine + puts key o.later others = ap (λ (l : List E). puts key l rest) o.entries ∙ ap (puts key (o.first ++ o.later)) is ∙ parts in
    let was = u.counted in
    record {
      done = u.done ++ edited key o.first mine;
      behind = o.later;
      done_pages = u.done_pages ++ o.first_pages;
      left_pages = o.later_pages;
      stage = stage u.done o.first u.done_pages o.first_pages o.one u.stage;
      others = o.rest;
      made = u.made ∙ ap (λ (l : List E). u.done ++ l) (ap (λ (l : List E). edited key l rest) o.entries ∙ ap (edited key (o.first ++ o.later)) is ∙ both) ∙ sym (append_assoc u.done (edited key o.first mine) (edited key o.later others));
      pages = λ ib. let a = u.pages ib in let b = ap (tally ib) o.pages in let d = tally-join ib o.first_pages o.later_pages in let e = tally-join ib u.done_pages o.first_pages in
          sums (tally ib ps) (tally ib u.done_pages) (tally ib u.left_pages) (tally ib (o.first_pages ++ o.later_pages)) (tally ib o.first_pages) (tally ib o.later_pages) (tally ib (u.done_pages ++ o.first_pages)) a b d e;
      put = u.put + puts key o.first mine;
      counted = omega (arith, was, here);
      reserve = count u.put o.first o.first_pages o.one u.reserve;
    }
  where
    sums : (p d l fl f r df : ℕ) → p ≡ d + l → l ≡ fl → fl ≡ f + r → df ≡ d + f → p ≡ df + r
    sums p d l fl f r df a b c e = omega arith

-- ---- the loop over the children of a page

pub record EditLoop {A E : Type 0} (rule : ℕ → ℕ) (leaf : ℕ) (entry_of : List ℕ → E) (key : E → ℕ) (first now : Source A) (page : Page) (low high most i : ℕ) (old new : List (PlanPage E)) (freed gone : List Bref)
    (out : List (ℕ × Child)) (kept : Option Seat) (entries : List E) (children : List (ℕ × Child)) (edits rest : List (ℕ × Option E)) : Type 0 where
  pub later : Later first now
  pub edits_in : AreEdits key (floor_at low (high + 1) (map (child_in rule) page.entries) i) (high + 1) rest
  pub top : floor_at low (high + 1) (map (child_in rule) page.entries) i ≤ high + 1
  pub order : Order rule key low (floor_at low (high + 1) (map (child_in rule) page.entries) i) out kept entries children
  pub so_far : (find : Bref → Option (List ℕ)) → first.holds find → (n : ℕ) → page.level ≡ suc n → (es : List E) (ps : List Bref)
      → AreBelow (IsTree (shapes rule leaf entry_of find) key n) (high + 1) (map (child_in rule) page.entries) es ps
      → Underway (shapes rule leaf entry_of find) key most n i order.cut (floor_at low (high + 1) (map (child_in rule) page.entries) i) (high + 1) (drop i (map (child_in rule) page.entries)) old new freed gone out kept entries children es ps edits rest

size-none : (E : Type 0) (n : ℕ) → size_of {E = E} n [] [] ≡ 0
size-none E zero = refl
size-none E (suc n) = size-inner {E = E} n [] []

zero-sum : (a : ℕ) → a ≡ 0 + a
zero-sum a = omega arith

pub size-join : {E : Type 0} (n : ℕ) (xs ys : List E) (cs ds : List (ℕ × Child)) → size_of n (xs ++ ys) (cs ++ ds) ≡ size_of n xs cs + size_of n ys ds
size-join zero xs ys cs ds = length-append xs ys
size-join (suc n) xs ys cs ds = size-inner n (xs ++ ys) (cs ++ ds) ∙ length-append cs ds ∙ ap (λ (m : ℕ). m + length ds) (sym (size-inner n xs cs)) ∙ ap (λ (m : ℕ). size_of (suc n) xs cs + m) (sym (size-inner n ys ds))

order-raised : {E : Type 0} {rule : ℕ → ℕ} {key : E → ℕ} {low floor floor_now : ℕ} {out : List (ℕ × Child)} {kept : Option Seat} {entries : List E} {children : List (ℕ × Child)} → floor ≡ floor_now → Order rule key low floor out kept entries children
    → Order rule key low floor_now out kept entries children
order-raised {E} {rule} {key} {low} {floor} {floor_now} {out} {kept} {entries} {children} e o = record {
  cut = o.cut;
  next = o.next;
  least = o.least;
  out_rise = o.out_rise;
  within = o.within;
  top = subst (λ (m : ℕ). o.next ≤ m) e o.top;
  entries_rise = subst (λ (m : ℕ). RiseIn o.next m (map key entries)) e o.entries_rise;
  children_rise = subst (λ (m : ℕ). RiseIn o.next m (keys_of children)) e o.children_rise;
  out_keys = o.out_keys;
  children_keys = o.children_keys;
}

-- nothing is held yet
pub loop-start : {A E : Type 0} (rule : ℕ → ℕ) (leaf : ℕ) (entry_of : List ℕ → E) (key : E → ℕ) (first : Source A) (page : Page) (low high most : ℕ) (pages : List (PlanPage E)) (freed : List Bref) (edits : List (ℕ × Option E)) → low ≤ high + 1 → AreEdits key low (high + 1) edits
    → EditLoop rule leaf entry_of key first first page low high most 0 pages pages freed freed [] None [] [] edits edits
unfolding order-start
loop-start {A} {E} rule leaf entry_of key first page low high most pages freed edits le are = record {
  later = later-same first;
  edits_in = are;
  top = le;
  order = order-start rule key low;
  so_far = λ find told n is es ps below. record {
    done = [];
    behind = es;
    done_pages = [];
    left_pages = ps;
    stage = stage-start (shapes rule leaf entry_of find) key n low pages freed;
    others = below;
    made = refl;
    pages = λ ib. zero-sum (tally ib ps);
    put = 0;
    counted = omega arith;
    reserve = reserve-start n most (size_of {E = E} n [] []) 0 (length pages) (length freed) (size-none E n) refl;
  };
}

pub loop-begin : {A E : Type 0} (rule : ℕ → ℕ) (leaf : ℕ) (entry_of : List ℕ → E) (key : E → ℕ) (first : Source A) (page : Page) (low high most : ℕ) (pages : List (PlanPage E)) (freed : List Bref) (out : List (ℕ × Child)) (kept : Option Seat) (entries : List E) (children : List (ℕ × Child))
    (edits : List (ℕ × Option E)) → low ≤ high + 1 → AreEdits key low (high + 1) edits → out ≡ [] → kept ≡ None → entries ≡ [] → children ≡ []
    → EditLoop rule leaf entry_of key first first page low high most 0 pages pages freed freed out kept entries children edits edits
loop-begin {A} {E} rule leaf entry_of key first page low high most pages freed out kept entries children edits le are a b c d =
    subst (λ (l : List (ℕ × Child)). EditLoop rule leaf entry_of key first first page low high most 0 pages pages freed freed l kept entries children edits edits) (sym a)
    (subst (λ (k : Option Seat). EditLoop rule leaf entry_of key first first page low high most 0 pages pages freed freed [] k entries children edits edits) (sym b)
    (subst (λ (l : List E). EditLoop rule leaf entry_of key first first page low high most 0 pages pages freed freed [] None l children edits edits) (sym c)
    (subst (λ (l : List (ℕ × Child)). EditLoop rule leaf entry_of key first first page low high most 0 pages pages freed freed [] None [] l edits edits) (sym d)
    (loop-start rule leaf entry_of key first page low high most pages freed edits le are))))

pub size-begin : {E : Type 0} (n : ℕ) (entries : List E) (children : List (ℕ × Child)) → entries ≡ [] → children ≡ [] → size_of n entries children ≡ 0
size-begin {E} n entries children a b = ap (λ (l : List E). size_of n l children) a ∙ ap (λ (l : List (ℕ × Child)). size_of {E = E} n [] l) b ∙ size-none E n

-- the child that stays has its key in its seat
pub kept-seat : {A E : Type 0} {rule : ℕ → ℕ} {leaf : ℕ} {entry_of : List ℕ → E} {key : E → ℕ} {first now : Source A} {page : Page} {low high most i : ℕ} {old new : List (PlanPage E)} {freed gone : List Bref} {out : List (ℕ × Child)} {kept : Option Seat} {entries : List E} {children : List (ℕ × Child)}
    {edits rest : List (ℕ × Option E)} (seat : Seat) → EditLoop rule leaf entry_of key first now page low high most i old new freed gone out kept entries children edits rest → kept ≡ Some seat → (seat.low ≤ seat.key) × (seat.key ≤ seat.high)
kept-seat {rule = rule} seat loop is = let k = subst (λ (x : Option Seat). KeptIn rule loop.order.cut loop.order.next x) is loop.order.within in (k.1, k.2)

-- a child that stays is all that is held
pub loop-stays : {A E : Type 0} (rule : ℕ → ℕ) (leaf : ℕ) (entry_of : List ℕ → E) (key : E → ℕ) (first now : Source A) (page : Page) (low high most i : ℕ) (old new : List (PlanPage E)) (freed gone : List Bref) (out : List (ℕ × Child)) (kept : Option Seat) (entries : List E) (children : List (ℕ × Child))
    (edits rest : List (ℕ × Option E)) (seat : Seat) → kept ≡ Some seat → entries ≡ [] → children ≡ [] → EditLoop rule leaf entry_of key first now page low high most i old new freed gone out (Some seat) [] [] edits rest
    → EditLoop rule leaf entry_of key first now page low high most i old new freed gone out kept entries children edits rest
loop-stays {A} {E} rule leaf entry_of key first now page low high most i old new freed gone out kept entries children edits rest seat b c d loop =
    subst (λ (k : Option Seat). EditLoop rule leaf entry_of key first now page low high most i old new freed gone out k entries children edits rest) (sym b)
    (subst (λ (l : List E). EditLoop rule leaf entry_of key first now page low high most i old new freed gone out (Some seat) l children edits rest) (sym c)
    (subst (λ (l : List (ℕ × Child)). EditLoop rule leaf entry_of key first now page low high most i old new freed gone out (Some seat) [] l edits rest) (sym d) loop))

-- the lengths of what is put behind others
pub settled-out : {E : Type 0} (key : E → ℕ) (rule : ℕ → ℕ) (leaf n : ℕ) (old new : List (PlanPage E)) (out all : List (ℕ × Child)) (kept : Option Seat) (entries : List E) (children : List (ℕ × Child)) (s : Settles key rule leaf n old new kept entries children out all)
    → length all ≡ (length out + length (kept_child kept)) + length s.pieces
settled-out key rule leaf n old new out all kept entries children s =
    let a = ap (λ (l : List (ℕ × Child)). length l) s.out in
    let b = length-append (out ++ kept_child kept) s.pieces in
    let c = length-append out (kept_child kept) in
    omega (arith, a, b, c)

-- a child stays
pub loop-kept : {A E : Type 0} (rule : ℕ → ℕ) (leaf : ℕ) (entry_of : List ℕ → E) (key : E → ℕ) (first now : Source A) (page : Page) (low high most i level : ℕ) (old new last : List (PlanPage E)) (freed gone : List Bref) (out all : List (ℕ × Child)) (kept : Option Seat) (entries : List E)
    (children : List (ℕ × Child)) (edits rest mine others : List (ℕ × Option E)) (seat : Seat) → IsMost leaf level most → page.level ≡ suc level
    → EditLoop rule leaf entry_of key first now page low high most i old new freed gone out kept entries children edits rest
    → Seated low high (map (child_in rule) page.entries) i (seat.key, seat.at) seat.low seat.high → rule seat.key ≡ seat.key → seat.low ≤ seat.key → seat.key ≤ seat.high → rest ≡ mine ++ others → mine ≡ [] → AreEdits key seat.low (seat.high + 1) mine → AreEdits key (seat.high + 1) (high + 1) others
    → Settles key rule leaf level new last kept entries children out all
    → EditLoop rule leaf entry_of key first now page low high most (i + 1) old last freed gone all (Some seat) [] [] edits others
unfolding order-raised order-kept
loop-kept {A} {E} rule leaf entry_of key first now page low high most i level old new last freed gone out all kept entries children edits rest mine others seat is_most level_is loop seated keyed seat_low seat_high is none mine_in others_in settles =
    let kids : List (ℕ × Bref) = map (child_in rule) page.entries in
    let s = seated.stands in
    let floor : ℕ = floor_at low (high + 1) kids i in
    let end : ℕ = up_to (high + 1) (drop (i + 1) kids) in
    let o = loop.order in
    let bottom = s.bottom in
    let low_is = seated.low_is in
    let high_is = seated.high_is in
    let done = order-end rule key leaf level low floor new last out all kept entries children o settles in
    let mine_here : AreEdits key floor end mine = subst (λ (m : ℕ). AreEdits key m end mine) seated.low_is (subst (λ (m : ℕ). AreEdits key seat.low m mine) seated.high_is mine_in) in
    let others_here : AreEdits key end (high + 1) others = subst (λ (m : ℕ). AreEdits key m (high + 1) others) seated.high_is others_in in
    let order_now : Order rule key low end all (Some seat) [] [] = order-kept rule key low floor end all seat (omega (arith, bottom)) done (omega (arith, low_is), seat_low, seat_high, omega (arith, high_is), keyed) in
    record {
      later = loop.later;
      edits_in = subst (λ (m : ℕ). AreEdits key m (high + 1) others) (sym s.step) others_here;
      top = subst (λ (m : ℕ). m ≤ high + 1) (sym s.step) s.top;
      order = order-raised (sym s.step) order_now;
      so_far = λ find told n n_is es ps below.
          let same : level ≡ n = omega (arith, level_is, n_is) in
          let settled : Settles key rule leaf n new last kept entries children out all = subst (λ (m : ℕ). Settles key rule leaf m new last kept entries children out all) same settles in
          let u = subst (λ (l : List (ℕ × Bref)). Underway (shapes rule leaf entry_of find) key most n i o.cut floor (high + 1) l old new freed gone out kept entries children es ps edits rest) s.here (loop.so_far find told n n_is es ps below) in
          subst (λ (m : ℕ). Underway (shapes rule leaf entry_of find) key most n (i + 1) floor m (high + 1) (drop (i + 1) kids) old last freed gone all (Some seat) [] [] es ps edits others) (sym s.step) (underway-next (shapes rule leaf entry_of find) key most n i o.cut floor floor (high + 1) (seat.key, seat.at) (drop (i + 1) kids) old new last freed gone gone out all kept (Some seat) entries [] children [] es ps edits rest mine others s.floor s.rising is mine_here others_here
          (λ ds fs qs rs tree g.
          let fs_is : fs ≡ edited key fs mine = sym (ap (edited key fs) none) in
          subst (λ (l : List E). Stage (shapes rule leaf entry_of find) key n floor end old last freed gone all (Some seat) [] [] (ds ++ l) (qs ++ rs)) fs_is
          (stage-kept (shapes rule leaf entry_of find) key n floor end old last freed gone all seat ds fs qs rs
          (stage-end (shapes rule leaf entry_of find) key rule leaf n o.cut o.next floor old new last freed gone out all kept entries children ds qs o.within o.top o.entries_rise o.children_rise g settled)
          (subst (λ (m : ℕ). IsTree (shapes rule leaf entry_of find) key n seat.key m seat.at fs rs) (sym seated.high_is) tree)))
          (λ v fs rs tree r.
          let v_is : v ≡ v + puts key fs mine = let z = ap (puts key fs) none in omega (arith, z) in
          subst (λ (m : ℕ). IsReserve n most (i + 1) m (size_of {E = E} n [] []) (length all + 1) (length old) (length last) (length freed) (length gone)) v_is
          (let out_is = settled-out key rule leaf n new last out all kept entries children settled in
          reserve-kept n most i v (size_of n entries children) (length out + length (kept_child kept)) (length old) (length new) (length freed) (length gone) (length settled.pieces) (length all + 1) (size_of {E = E} n [] []) (length last) r
          (λ k le. settled.makes.few most k (subst (λ (m : ℕ). IsMost leaf m most) same is_most) le) (size-none E n) (omega (arith, out_is)) settled.makes.grows)) u);
    }

-- what was read of a child comes to stand behind what is held, or in its place
pub loop-read : {A E : Type 0} (rule : ℕ → ℕ) (leaf : ℕ) (entry_of : List ℕ → E) (key : E → ℕ) (first now after : Source A) (page : Page) (low high most i level least : ℕ) (old mid new last : List (PlanPage E)) (freed between gone : List Bref) (out all : List (ℕ × Child)) (kept now_kept : Option Seat)
    (entries more_entries now_entries : List E) (children more_children now_children : List (ℕ × Child)) (edits rest mine others : List (ℕ × Option E)) (seat : Seat) → 1 ≤ most → IsMost leaf level most → page.level ≡ suc level
    → EditLoop rule leaf entry_of key first now page low high most i old mid freed between out kept entries children edits rest → Later now after
    → Seated low high (map (child_in rule) page.entries) i (seat.key, seat.at) seat.low seat.high → rest ≡ mine ++ others → AreEdits key seat.low (seat.high + 1) mine → AreEdits key (seat.high + 1) (high + 1) others
    → RiseIn seat.low (seat.high + 1) (map key more_entries) → RiseIn seat.low (seat.high + 1) (keys_of more_children) → AreKeys rule (keys_of more_children)
    → ((find : Bref → Option (List ℕ)) → now.holds find → (fs : List E) (qs : List Bref) → IsTree (shapes rule leaf entry_of find) key level seat.key (seat.high + 1) seat.at fs qs
    → Becomes (shapes rule leaf entry_of find) (StandsFor key level (seat.high + 1) more_entries more_children) mid new between gone (edited key fs mine) qs)
    → ((find : Bref → Option (List ℕ)) → now.holds find → (fs : List E) (qs : List Bref) → IsTree (shapes rule leaf entry_of find) key level seat.key (seat.high + 1) seat.at fs qs
    → IsRead leaf level (puts key fs mine) (size_of level more_entries more_children) (length mid) (length new) (length between) (length gone))
    → Moves key rule leaf level least new last kept entries children more_entries more_children out all now_kept now_entries now_children
    → EditLoop rule leaf entry_of key first after page low high most (i + 1) old last freed gone all now_kept now_entries now_children edits others
unfolding order-raised order-join order-next
loop-read {A} {E} rule leaf entry_of key first now after page low high most i level least old mid new last freed between gone out all kept now_kept entries more_entries now_entries children more_children now_children edits rest mine others seat some is_most level_is loop later seated is mine_in others_in
    more_rise kids_rise keys becomes read moves = ⊎_elim join next moves
  where
    kids : List (ℕ × Bref)
    kids = map (child_in rule) page.entries

    floor : ℕ
    floor = floor_at low (high + 1) kids i

    end : ℕ
    end = up_to (high + 1) (drop (i + 1) kids)

    up : floor ≤ end
    up = let a = seated.stands.floor in let b = seated.stands.next in omega (arith, a, b)

    mine_here : AreEdits key floor end mine
    mine_here = subst (λ (m : ℕ). AreEdits key m end mine) seated.low_is (subst (λ (m : ℕ). AreEdits key seat.low m mine) seated.high_is mine_in)

    others_here : AreEdits key end (high + 1) others
    others_here = subst (λ (m : ℕ). AreEdits key m (high + 1) others) seated.high_is others_in

    entries_here : RiseIn floor end (map key more_entries)
    entries_here = subst (λ (m : ℕ). RiseIn m end (map key more_entries)) seated.low_is (subst (λ (m : ℕ). RiseIn seat.low m (map key more_entries)) seated.high_is more_rise)

    kids_here : RiseIn floor end (keys_of more_children)
    kids_here = subst (λ (m : ℕ). RiseIn m end (keys_of more_children)) seated.low_is (subst (λ (m : ℕ). RiseIn seat.low m (keys_of more_children)) seated.high_is kids_rise)

    -- of the child's level, and in the bounds of its span
    child : (find : Bref → Option (List ℕ)) → first.holds find → (n : ℕ) → level ≡ n → (fs : List E) (qs : List Bref) → IsTree (shapes rule leaf entry_of find) key n seat.key end seat.at fs qs
        → Becomes (shapes rule leaf entry_of find) (StandsFor key n end more_entries more_children) mid new between gone (edited key fs mine) qs
    child find told n same fs qs tree =
        subst (λ (m : ℕ). Becomes (shapes rule leaf entry_of find) (StandsFor key m end more_entries more_children) mid new between gone (edited key fs mine) qs) same
        (subst (λ (m : ℕ). Becomes (shapes rule leaf entry_of find) (StandsFor key level m more_entries more_children) mid new between gone (edited key fs mine) qs) seated.high_is
        (becomes find (loop.later.told find told) fs qs (subst (λ (m : ℕ). IsTree (shapes rule leaf entry_of find) key m seat.key (seat.high + 1) seat.at fs qs) (sym same)
        (subst (λ (m : ℕ). IsTree (shapes rule leaf entry_of find) key n seat.key m seat.at fs qs) (sym seated.high_is) tree))))

    costs : (find : Bref → Option (List ℕ)) → first.holds find → (n : ℕ) → level ≡ n → (fs : List E) (qs : List Bref) → IsTree (shapes rule leaf entry_of find) key n seat.key end seat.at fs qs
        → IsRead leaf n (puts key fs mine) (size_of n more_entries more_children) (length mid) (length new) (length between) (length gone)
    costs find told n same fs qs tree =
        subst (λ (m : ℕ). IsRead leaf m (puts key fs mine) (size_of m more_entries more_children) (length mid) (length new) (length between) (length gone)) same
        (read find (loop.later.told find told) fs qs (subst (λ (m : ℕ). IsTree (shapes rule leaf entry_of find) key m seat.key (seat.high + 1) seat.at fs qs) (sym same)
        (subst (λ (m : ℕ). IsTree (shapes rule leaf entry_of find) key n seat.key m seat.at fs qs) (sym seated.high_is) tree)))

    joined : EditLoop rule leaf entry_of key first after page low high most (i + 1) old new freed gone out kept (entries ++ more_entries) (children ++ more_children) edits others
    joined =
        let s = seated.stands in
        let o = loop.order in
        record {
          later = later-then loop.later later;
          edits_in = subst (λ (m : ℕ). AreEdits key m (high + 1) others) (sym s.step) others_here;
          top = subst (λ (m : ℕ). m ≤ high + 1) (sym s.step) s.top;
          order = order-raised (sym s.step) (order-join rule key low floor end out kept entries more_entries children more_children up entries_here kids_here keys o);
          so_far = λ find told n n_is es ps below.
              let same : level ≡ n = omega (arith, level_is, n_is) in
              let u = subst (λ (l : List (ℕ × Bref)). Underway (shapes rule leaf entry_of find) key most n i o.cut floor (high + 1) l old mid freed between out kept entries children es ps edits rest) s.here (loop.so_far find told n n_is es ps below) in
              subst (λ (m : ℕ). Underway (shapes rule leaf entry_of find) key most n (i + 1) o.cut m (high + 1) (drop (i + 1) kids) old new freed gone out kept (entries ++ more_entries) (children ++ more_children) es ps edits others) (sym s.step)
              (underway-next (shapes rule leaf entry_of find) key most n i o.cut o.cut floor (high + 1) (seat.key, seat.at) (drop (i + 1) kids) old mid new freed between gone out out kept kept entries (entries ++ more_entries) children (children ++ more_children) es ps edits rest mine others s.floor s.rising is mine_here others_here
              (λ ds fs qs rs tree g. stage-join (shapes rule leaf entry_of find) key n o.cut floor end old mid new freed between gone out kept entries more_entries children more_children ds (edited key fs mine) qs rs up kids_here g (child find told n same fs rs tree))
              (λ v fs rs tree r.
              let c = costs find told n same fs rs tree in
              reserve-join n most i v (puts key fs mine) (size_of n entries children) (size_of n more_entries more_children) (length out + length (kept_child kept)) (length old) (length mid) (length new) (length freed) (length between) (length gone) (size_of n (entries ++ more_entries) (children ++ more_children)) some r
              (c.few most (subst (λ (m : ℕ). IsMost leaf m most) same is_most)) c.spare (size-join n entries more_entries children more_children)) u);
        }

    join : IsJoined level least new last kept entries children more_entries more_children out all now_kept now_entries now_children → EditLoop rule leaf entry_of key first after page low high most (i + 1) old last freed gone all now_kept now_entries now_children edits others
    join j =
        subst (λ (l : List (PlanPage E)). EditLoop rule leaf entry_of key first after page low high most (i + 1) old l freed gone all now_kept now_entries now_children edits others) (sym j.pages)
        (subst (λ (l : List (ℕ × Child)). EditLoop rule leaf entry_of key first after page low high most (i + 1) old new freed gone l now_kept now_entries now_children edits others) (sym j.out)
        (subst (λ (k : Option Seat). EditLoop rule leaf entry_of key first after page low high most (i + 1) old new freed gone out k now_entries now_children edits others) (sym j.kept_is)
        (subst (λ (l : List E). EditLoop rule leaf entry_of key first after page low high most (i + 1) old new freed gone out kept l now_children edits others) (sym j.entries_are)
        (subst (λ (l : List (ℕ × Child)). EditLoop rule leaf entry_of key first after page low high most (i + 1) old new freed gone out kept (entries ++ more_entries) l edits others) (sym j.children_are) joined))))

    alone : Settles key rule leaf level new last kept entries children out all → EditLoop rule leaf entry_of key first after page low high most (i + 1) old last freed gone all None more_entries more_children edits others
    alone settles =
        let s = seated.stands in
        let o = loop.order in
        let bottom = s.bottom in
        let done = order-end rule key leaf level low floor new last out all kept entries children o settles in
        record {
          later = later-then loop.later later;
          edits_in = subst (λ (m : ℕ). AreEdits key m (high + 1) others) (sym s.step) others_here;
          top = subst (λ (m : ℕ). m ≤ high + 1) (sym s.step) s.top;
          order = order-raised (sym s.step) (order-next rule key low floor end all more_entries more_children (omega (arith, bottom)) up done entries_here kids_here keys);
          so_far = λ find told n n_is es ps below.
              let same : level ≡ n = omega (arith, level_is, n_is) in
              let settled : Settles key rule leaf n new last kept entries children out all = subst (λ (m : ℕ). Settles key rule leaf m new last kept entries children out all) same settles in
              let u = subst (λ (l : List (ℕ × Bref)). Underway (shapes rule leaf entry_of find) key most n i o.cut floor (high + 1) l old mid freed between out kept entries children es ps edits rest) s.here (loop.so_far find told n n_is es ps below) in
              subst (λ (m : ℕ). Underway (shapes rule leaf entry_of find) key most n (i + 1) floor m (high + 1) (drop (i + 1) kids) old last freed gone all None more_entries more_children es ps edits others) (sym s.step)
              (underway-next (shapes rule leaf entry_of find) key most n i o.cut floor floor (high + 1) (seat.key, seat.at) (drop (i + 1) kids) old mid last freed between gone out all kept None entries more_entries children more_children es ps edits rest mine others s.floor s.rising is mine_here others_here
              (λ ds fs qs rs tree g. stage-next (shapes rule leaf entry_of find) key rule leaf n low o.cut o.next floor end old mid new last freed between gone out all kept entries more_entries children more_children ds (edited key fs mine) qs rs o.within o.top o.entries_rise o.children_rise g
              (child find told n same fs rs tree) settled)
              (λ v fs rs tree r.
              let c = costs find told n same fs rs tree in
              let out_is = settled-out key rule leaf n new last out all kept entries children settled in
              reserve-next n most i v (puts key fs mine) (size_of n entries children) (size_of n more_entries more_children) (length out + length (kept_child kept)) (length old) (length mid) (length new) (length freed) (length between) (length gone) (length settled.pieces) (length all + 0) (length last)
              (size_of n more_entries more_children) some r (c.few most (subst (λ (m : ℕ). IsMost leaf m most) same is_most)) c.spare (λ k le. settled.makes.few most k (subst (λ (m : ℕ). IsMost leaf m most) same is_most) le) (omega (arith, out_is)) settled.makes.grows refl) u);
        }

    next : IsNext key rule leaf level least new last kept entries children more_entries more_children out all now_kept now_entries now_children → EditLoop rule leaf entry_of key first after page low high most (i + 1) old last freed gone all now_kept now_entries now_children edits others
    next j =
        subst (λ (k : Option Seat). EditLoop rule leaf entry_of key first after page low high most (i + 1) old last freed gone all k now_entries now_children edits others) (sym j.kept_is)
        (subst (λ (l : List E). EditLoop rule leaf entry_of key first after page low high most (i + 1) old last freed gone all None l now_children edits others) (sym j.entries_are)
        (subst (λ (l : List (ℕ × Child)). EditLoop rule leaf entry_of key first after page low high most (i + 1) old last freed gone all None more_entries l edits others) (sym j.children_are) (alone j.settles)))

-- the child that stayed is read after all, and comes to stand in front of what is held
pub loop-front : {A E : Type 0} (rule : ℕ → ℕ) (leaf : ℕ) (entry_of : List ℕ → E) (key : E → ℕ) (first now after : Source A) (page : Page) (low high most i level : ℕ) (old mid new : List (PlanPage E)) (freed between gone : List Bref) (out : List (ℕ × Child)) (kept now_kept : Option Seat)
    (entries first_entries now_entries : List E) (children first_children now_children : List (ℕ × Child)) (edits rest none : List (ℕ × Option E)) (seat : Seat) → IsMost leaf level most → page.level ≡ suc level
    → EditLoop rule leaf entry_of key first now page low high most i old mid freed between out kept entries children edits rest → Later now after → kept ≡ Some seat → none ≡ []
    → RiseIn seat.low (seat.high + 1) (map key first_entries) → RiseIn seat.low (seat.high + 1) (keys_of first_children) → AreKeys rule (keys_of first_children)
    → ((find : Bref → Option (List ℕ)) → now.holds find → (fs : List E) (qs : List Bref) → IsTree (shapes rule leaf entry_of find) key level seat.key (seat.high + 1) seat.at fs qs
    → Becomes (shapes rule leaf entry_of find) (StandsFor key level (seat.high + 1) first_entries first_children) mid new between gone (edited key fs none) qs)
    → ((find : Bref → Option (List ℕ)) → now.holds find → (fs : List E) (qs : List Bref) → IsTree (shapes rule leaf entry_of find) key level seat.key (seat.high + 1) seat.at fs qs
    → IsRead leaf level (puts key fs none) (size_of level first_entries first_children) (length mid) (length new) (length between) (length gone))
    → now_kept ≡ None → now_entries ≡ first_entries ++ entries → now_children ≡ first_children ++ children
    → EditLoop rule leaf entry_of key first after page low high most i old new freed gone out now_kept now_entries now_children edits rest
unfolding order-front
loop-front {A} {E} rule leaf entry_of key first now after page low high most i level old mid new freed between gone out kept now_kept entries first_entries now_entries children first_children now_children edits rest none seat is_most level_is loop later kept_is none_is
    first_rise kids_rise keys becomes read now_is entries_are children_are =
    subst (λ (k : Option Seat). EditLoop rule leaf entry_of key first after page low high most i old new freed gone out k now_entries now_children edits rest) (sym now_is)
    (subst (λ (l : List E). EditLoop rule leaf entry_of key first after page low high most i old new freed gone out None l now_children edits rest) (sym entries_are)
    (subst (λ (l : List (ℕ × Child)). EditLoop rule leaf entry_of key first after page low high most i old new freed gone out None (first_entries ++ entries) l edits rest) (sym children_are)
    (fronted (subst (λ (k : Option Seat). EditLoop rule leaf entry_of key first now page low high most i old mid freed between out k entries children edits rest) kept_is loop))))
  where
    fronted : EditLoop rule leaf entry_of key first now page low high most i old mid freed between out (Some seat) entries children edits rest
        → EditLoop rule leaf entry_of key first after page low high most i old new freed gone out None (first_entries ++ entries) (first_children ++ children) edits rest
    fronted l =
        let kids : List (ℕ × Bref) = map (child_in rule) page.entries in
        let floor : ℕ = floor_at low (high + 1) kids i in
        let o = l.order in
        record {
          later = later-then l.later later;
          edits_in = l.edits_in;
          top = l.top;
          order = order-front rule key low floor out seat first_entries entries first_children children first_rise kids_rise keys o;
          so_far = λ find told n n_is es ps below.
              let same : level ≡ n = omega (arith, level_is, n_is) in
              let u = l.so_far find told n n_is es ps below in
              let g = u.stage in
              let to_level : (fs : List E) (qs : List Bref) → IsTree (shapes rule leaf entry_of find) key n seat.key (seat.high + 1) seat.at fs qs → IsTree (shapes rule leaf entry_of find) key level seat.key (seat.high + 1) seat.at fs qs =
              λ fs qs tree. subst (λ (m : ℕ). IsTree (shapes rule leaf entry_of find) key m seat.key (seat.high + 1) seat.at fs qs) (sym same) tree in
              let r : IsRead leaf n 0 (size_of n first_entries first_children) (length mid) (length new) (length between) (length gone) =
              subst (λ (m : ℕ). IsRead leaf m 0 (size_of m first_entries first_children) (length mid) (length new) (length between) (length gone)) same
              (subst (λ (d : List (ℕ × Option E)). IsRead leaf level (puts key g.stayed d) (size_of level first_entries first_children) (length mid) (length new) (length between) (length gone)) none_is
              (read find (l.later.told find told) g.stayed g.stayed_pages (to_level g.stayed g.stayed_pages g.stays))) in
              record {
                done = u.done;
                behind = u.behind;
                done_pages = u.done_pages;
                left_pages = u.left_pages;
                stage = stage-front (shapes rule leaf entry_of find) key rule n o.cut o.next floor old mid new freed between gone out seat entries first_entries children first_children u.done u.done_pages o.top o.children_rise o.within.3
                    (λ fs qs tree. subst (λ (m : ℕ). Becomes (shapes rule leaf entry_of find) (StandsFor key m (seat.high + 1) first_entries first_children) mid new between gone fs qs) same
                    (subst (λ (d : List (ℕ × Option E)). Becomes (shapes rule leaf entry_of find) (StandsFor key level (seat.high + 1) first_entries first_children) mid new between gone (edited key fs d) qs) none_is
                    (becomes find (l.later.told find told) fs qs (to_level fs qs tree)))) g;
                others = u.others;
                made = u.made;
                pages = u.pages;
                put = u.put;
                counted = u.counted;
                reserve = reserve-front n most i u.put (size_of n entries children) (size_of n first_entries first_children) (length out + 1) (length out + 0) (length old) (length mid) (length new) (length freed) (length between) (length gone)
                    (size_of n (first_entries ++ entries) (first_children ++ children)) u.reserve (r.few most (subst (λ (m : ℕ). IsMost leaf m most) same is_most)) r.spare (omega arith) (size-join n first_entries entries first_children children);
              };
        }

-- ---- the end

pub no-edits : {E : Type 0} (key : E → ℕ) (end : ℕ) (ds : List (ℕ × Option E)) → AreEdits key end end ds → ds ≡ []
no-edits key end [] a = refl
no-edits key end (d ∷ ds) a = let x = a.0 in let y = a.1 in absurd (omega (arith, x, y))

-- all children are done
pub record Ends {E : Type 0} (find : Bref → Option (Shape E)) (key : E → ℕ) (n k high : ℕ) (old new : List (PlanPage E)) (freed gone : List Bref) (all : List (ℕ × Child)) (es : List E) (ps : List Bref) (edits : List (ℕ × Option E)) : Type 0 where
  pub replaces : Replaces find key n high old new freed gone all (edited key es edits) ps
  pub spare : IsSpare n k (puts key es edits) (length old) (length new) (length freed) (length gone) (length all)

pub loop-end : {A E : Type 0} (rule : ℕ → ℕ) (leaf : ℕ) (entry_of : List ℕ → E) (key : E → ℕ) (first now : Source A) (page : Page) (low high most i level : ℕ) (old new last : List (PlanPage E)) (freed gone : List Bref) (out all : List (ℕ × Child)) (kept : Option Seat) (entries : List E)
    (children : List (ℕ × Child)) (edits rest : List (ℕ × Option E)) → IsMost leaf level most → page.level ≡ suc level
    → EditLoop rule leaf entry_of key first now page low high most i old new freed gone out kept entries children edits rest → Settles key rule leaf level new last kept entries children out all → i ≡ length page.entries → 1 ≤ length page.entries
    → (find : Bref → Option (List ℕ)) → first.holds find → (n : ℕ) → page.level ≡ suc n → (es : List E) (ps : List Bref) → AreBelow (IsTree (shapes rule leaf entry_of find) key n) (high + 1) (map (child_in rule) page.entries) es ps
    → Ends (shapes rule leaf entry_of find) key n (length page.entries) (high + 1) old last freed gone all es ps edits
loop-end rule leaf entry_of key first now page low high most zero level old new last freed gone out all kept entries children edits rest is_most level_is loop settles count some = absurd (omega (arith, count, some))
loop-end {A} {E} rule leaf entry_of key first now page low high most (suc i) level old new last freed gone out all kept entries children edits rest is_most level_is loop settles count some = λ find told n n_is es ps below.
    let kids : List (ℕ × Bref) = map (child_in rule) page.entries in
    let len = length-map page.entries (child_in rule) in
    let none : drop (suc i) kids ≡ [] = drop_all (suc i) kids (omega (arith, len, count)) in
    let floor : up_to (high + 1) (drop (suc i) kids) ≡ high + 1 = ap (up_to (high + 1)) none in
    let rest_none : rest ≡ [] = no-edits key (high + 1) rest (subst (λ (m : ℕ). AreEdits key m (high + 1) rest) floor loop.edits_in) in
    let same : level ≡ n = omega (arith, level_is, n_is) in
    let settled : Settles key rule leaf n new last kept entries children out all = subst (λ (m : ℕ). Settles key rule leaf m new last kept entries children out all) same settles in
    let o = loop.order in
    let u = loop.so_far find told n n_is es ps below in
    let left = subst (λ (l : List (ℕ × Bref)). AreBelow (IsTree (shapes rule leaf entry_of find) key n) (high + 1) l u.behind u.left_pages) none u.others in
    let made : edited key es edits ≡ u.done = u.made ∙ ap (λ (l : List E). u.done ++ edited key l rest) left.0 ∙ ap (λ (l : List (ℕ × Option E)). u.done ++ edited key [] l) rest_none ∙ append-nil u.done in
    let put : puts key es edits ≡ u.put = (let a = u.counted in let b = ap (puts key u.behind) rest_none in omega (arith, a, b)) in
    let r = stage-end (shapes rule leaf entry_of find) key rule leaf n o.cut o.next (up_to (high + 1) (drop (suc i) kids)) old new last freed gone out all kept entries children u.done u.done_pages o.within o.top o.entries_rise o.children_rise u.stage settled in
    let s = reserve-end n most (suc i) u.put (size_of n entries children) (length out + length (kept_child kept)) (length old) (length new) (length freed) (length gone) (length settled.pieces) (length all) (length last) u.reserve
    (λ k le. settled.makes.few most k (subst (λ (m : ℕ). IsMost leaf m most) same is_most) le) (settled-out key rule leaf n new last out all kept entries children settled) settled.makes.grows in
    record {
      replaces = subst (λ (l : List E). Replaces (shapes rule leaf entry_of find) key n (high + 1) old last freed gone all l ps) (sym made)
          (becomes-pages (shapes rule leaf entry_of find) _ old last freed gone u.done u.done_pages ps (λ ib. let a = u.pages ib in let b = ap (tally ib) left.1 in sums (tally ib ps) (tally ib u.done_pages) (tally ib u.left_pages) a b)
          (subst (λ (m : ℕ). Replaces (shapes rule leaf entry_of find) key n m old last freed gone all u.done u.done_pages) floor r));
      spare = subst (λ (k : ℕ). IsSpare n k (puts key es edits) (length old) (length last) (length freed) (length gone) (length all)) count
          (subst (λ (v : ℕ). IsSpare n (suc i) v (length old) (length last) (length freed) (length gone) (length all)) (sym put) s);
    }
  where
    sums : (p d l : ℕ) → p ≡ d + l → l ≡ 0 → p ≡ d
    sums p d l a b = omega arith

-- ---- what the edits cost

pub ample-moves : {E : Type 0} (key : E → ℕ) (rule : ℕ → ℕ) (leaf level n most least i e d next old mid : ℕ) (new last : List (PlanPage E)) (out all : List (ℕ × Child)) (kept now_kept : Option Seat) (entries more_entries now_entries : List E) (children more_children now_children : List (ℕ × Child))
    → 1 ≤ level → 1 ≤ most → least ≤ most → IsMost leaf n most → IsAmple level most i e (size_of n entries children) (length out + length (kept_child kept)) old mid → size_of n more_entries more_children ≤ most + d → length new ≤ mid + (2 * (level - 1)) * d
    → (1 ≤ d) ⊎ ((1 ≤ size_of n entries children) × (size_of n entries children < least)) → Moves key rule leaf n least new last kept entries children more_entries more_children out all now_kept now_entries now_children → next ≡ e + d
    → IsAmple level most (i + 1) next (size_of n now_entries now_children) (length all + length (kept_child now_kept)) old (length last)
ample-moves {E} key rule leaf level n most least i e d next old mid new last out all kept now_kept entries more_entries now_entries children more_children now_children low some le is_most r few grown reads moves next_is =
    subst (λ (m : ℕ). IsAmple level most (i + 1) m (size_of n now_entries now_children) (length all + length (kept_child now_kept)) old (length last)) (sym next_is) (⊎_elim join alone moves)
  where
    join : IsJoined n least new last kept entries children more_entries more_children out all now_kept now_entries now_children → IsAmple level most (i + 1) (e + d) (size_of n now_entries now_children) (length all + length (kept_child now_kept)) old (length last)
    join j =
        subst (λ (l : List (PlanPage E)). IsAmple level most (i + 1) (e + d) (size_of n now_entries now_children) (length all + length (kept_child now_kept)) old (length l)) (sym j.pages)
        (subst (λ (l : List (ℕ × Child)). IsAmple level most (i + 1) (e + d) (size_of n now_entries now_children) (length l + length (kept_child now_kept)) old (length new)) (sym j.out)
        (subst (λ (k : Option Seat). IsAmple level most (i + 1) (e + d) (size_of n now_entries now_children) (length out + length (kept_child k)) old (length new)) (sym j.kept_is)
        (ample-join level most least i e d (size_of n entries children) (size_of n more_entries more_children) (length out + length (kept_child kept)) old mid (length new) (size_of n now_entries now_children) low some le r few grown reads j.small
        (ap (λ (l : List E). size_of n l now_children) j.entries_are ∙ ap (λ (l : List (ℕ × Child)). size_of n (entries ++ more_entries) l) j.children_are ∙ size-join n entries more_entries children more_children))))

    alone : IsNext key rule leaf n least new last kept entries children more_entries more_children out all now_kept now_entries now_children → IsAmple level most (i + 1) (e + d) (size_of n now_entries now_children) (length all + length (kept_child now_kept)) old (length last)
    alone j =
        let out_is = settled-out key rule leaf n new last out all kept entries children j.settles in
        let none = ap (λ (k : Option Seat). length (kept_child k)) j.kept_is in
        ample-next level most least i e d (size_of n entries children) (size_of n more_entries more_children) (length out + length (kept_child kept)) old mid (length new) (length j.settles.pieces) (length all + length (kept_child now_kept)) (length last) (size_of n now_entries now_children)
        low some r few grown reads j.large (λ k le. j.settles.makes.few most k is_most le) (omega (arith, out_is, none)) j.settles.makes.grows (ap (λ (l : List E). size_of n l now_children) j.entries_are ∙ ap (λ (l : List (ℕ × Child)). size_of n more_entries l) j.children_are)
