-- Which entries a reading has reached, and that a tree has them.
use Rattle.std.proofs.Common.{◌≡◌, ℕ, zero, suc, ◌+◌, ◌-◌, ◌<◌, List, [], ◌∷◌, ◌++◌, length, drop, map, get_or, Ok, refl, sym, ap, subst, ◌∙◌, arith, append_assoc, append-nil, ◌⊎◌, ⊎_elim}
use Rattle.std.specs.List.{Contains}
use Rattle.std.proofs.lemmas.List.{map-append}
use Rattle.std.proofs.lemmas.List.Elements.{Contains-append_left, Contains-append_right, Contains-append_cases}
use Rattle.std.proofs.Math.Seq.{drop-cons}
use Rattle.pst_base.specs.declared.ids.Bref.{Bref}
use Rattle.btree_pages.specs.Pages.{Page}
use Rattle.file_layout.specs.declared.stops.OpenStop.{OpenStop}
use Rattle.file_layout.specs.declared.stops.OpenStop.TheVariants.{Refused, Fault, Changed, Memory}
use Rattle.file_layout.specs.declared.tree_pages.Seat.{Seat}
use Rattle.file_layout.specs.Trees.{FileTree, page_at, Found, child_of, AreChildren, IsTree, root_seat, IsWhole}
use Rattle.file_layout.specs.Walk.{Leads, IsReached, AddsReached, AddsBefore}
use Rattle.file_layout.proofs.WalkLaws.{stands-read, same_page}

-- ---- in a reading

not-in-none : (entry : List ℕ) → Contains [] entry → ⊥
not-in-none entry has = let h : has.0 < 0 = has.1 in never has.0 h
  where
    never : (n : ℕ) → n < 0 → ⊥
    never n h = omega (arith, h)

-- nothing was put down
pub reached-none : {E : Type 0} (entry_of : List ℕ → E) (t : FileTree) (top : Seat) (old : List E) → AddsReached entry_of t top old old
reached-none entry_of t top old = record { some = []; entries = sym (append-nil old); reached = λ entry has. absurd (not-in-none entry has) }

pub before-none : {E : Type 0} (entry_of : List ℕ → E) (t : FileTree) (top : Seat) (old : List E) (stop : OpenStop) → AddsBefore stop entry_of t top old old
before-none entry_of t top old Memory = tt
before-none entry_of t top old Fault = tt
before-none entry_of t top old (Changed ib stored computed) = tt
before-none entry_of t top old (Refused refusal) = reached-none entry_of t top old

-- a leaf's entries
pub reached-leaf : {E : Type 0} (entry_of : List ℕ → E) (t : FileTree) (seat : Seat) (page : Page) (old new : List E) → page_at t seat ≡ Ok page → page.level ≡ 0 → new ≡ old ++ map entry_of page.entries
    → AddsReached entry_of t seat old new
reached-leaf entry_of t seat page old new right leaf put = record {
  some = page.entries;
  entries = put;
  reached = λ entry has. record { path = []; seat = seat; leads = refl; page = page; right = right; leaf = leaf; has = has };
}

level-above : (l : ℕ) → (l ≡ 0 → ⊥) → l ≡ suc (l - 1)
level-above zero inner = absurd (inner refl)
level-above (suc l) inner = omega arith

-- what is reached from a page's child is reached from the page
pub reached-below : (t : FileTree) (seat : Seat) (page : Page) (i : ℕ) (child : Seat) → page_at t seat ≡ Ok page → (page.level ≡ 0 → ⊥) → i < length page.entries
    → child ≡ child_of t.rule (page.level - 1) seat.high (get_or page.entries i []) (drop (i + 1) page.entries)
    → (entry : List ℕ) → IsReached t child entry → IsReached t seat entry
reached-below t seat page i child right inner within is entry below =
    let from : suc i ≡ i + 1 = omega arith in
    record {
      path = i ∷ below.path;
      seat = below.seat;
      leads = (
        page,
        page.level - 1,
        get_or page.entries i [],
        drop (i + 1) page.entries,
        right,
        level-above page.level inner,
        drop-cons page.entries i [] within ∙ ap (λ (k : ℕ). get_or page.entries i [] ∷ drop k page.entries) from,
        subst (λ (s : Seat). Leads t s below.path below.seat) is below.leads,
      );
      page = below.page;
      right = below.right;
      leaf = below.leaf;
      has = below.has;
    }

-- a child's entries behind those that were put down
pub reached-next : {E : Type 0} (entry_of : List ℕ → E) (t : FileTree) (seat : Seat) (page : Page) (i : ℕ) (child : Seat) (old mid new : List E) → page_at t seat ≡ Ok page → (page.level ≡ 0 → ⊥) → i < length page.entries
    → child ≡ child_of t.rule (page.level - 1) seat.high (get_or page.entries i []) (drop (i + 1) page.entries)
    → AddsReached entry_of t seat old mid → AddsReached entry_of t child mid new → AddsReached entry_of t seat old new
reached-next {E} entry_of t seat page i child old mid new right inner within is first later = record {
  some = first.some ++ later.some;
  entries = later.entries ∙ ap (λ (l : List E). l ++ map entry_of later.some) first.entries ∙ append_assoc old (map entry_of first.some) (map entry_of later.some)
      ∙ ap (λ (l : List E). old ++ l) (sym (map-append entry_of first.some later.some));
  reached = λ entry has.
      ⊎_elim
      (λ (h : Contains first.some entry). first.reached entry h)
      (λ (h : Contains later.some entry). reached-below t seat page i child right inner within is entry (later.reached entry h))
      (Contains-append_cases first.some later.some entry has);
}

pub before-next : {E : Type 0} (entry_of : List ℕ → E) (t : FileTree) (seat : Seat) (page : Page) (i : ℕ) (child : Seat) (old mid new : List E) → page_at t seat ≡ Ok page → (page.level ≡ 0 → ⊥) → i < length page.entries
    → child ≡ child_of t.rule (page.level - 1) seat.high (get_or page.entries i []) (drop (i + 1) page.entries)
    → AddsReached entry_of t seat old mid → (stop : OpenStop) → AddsBefore stop entry_of t child mid new → AddsBefore stop entry_of t seat old new
before-next entry_of t seat page i child old mid new right inner within is first Memory later = tt
before-next entry_of t seat page i child old mid new right inner within is first Fault later = tt
before-next entry_of t seat page i child old mid new right inner within is first (Changed ib stored computed) later = tt
before-next entry_of t seat page i child old mid new right inner within is first (Refused refusal) later =
    reached-next entry_of t seat page i child old mid new right inner within is first later

-- ---- in a tree

-- one of the children that entries name
child-at : (P : Seat → Found → Type 0) (rule : ℕ → ℕ) (n high : ℕ) (entries : List (List ℕ)) (found : Found) (i : ℕ) (entry : List ℕ) (rest : List (List ℕ))
    → AreChildren P rule n high entries found → drop i entries ≡ entry ∷ rest
    → (first : Found) × P (child_of rule n high entry rest) first × ((e : List ℕ) → Contains first.entries e → Contains found.entries e)
child-at P rule n high [] found zero entry rest are here = absurd (cc)
child-at P rule n high [] found (suc i) entry rest are here = absurd (cc)
child-at P rule n high (x ∷ xs) found zero entry rest are here =
    let one : x ≡ entry = cc in
    let more : xs ≡ rest = cc in (
      are.0,
      subst (λ (e : List ℕ). P (child_of rule n high e rest) are.0) one (subst (λ (es : List (List ℕ)). P (child_of rule n high x es) are.0) more are.2),
      λ e has. subst (λ (f : Found). Contains f.entries e) (sym are.4) (Contains-append_left are.0.entries are.1.entries e has),
    )
child-at P rule n high (x ∷ xs) found (suc i) entry rest are here =
    let later : (first : Found) × P (child_of rule n high entry rest) first × ((e : List ℕ) → Contains first.entries e → Contains are.1.entries e) = child-at P rule n high xs are.1 i entry rest are.3 here in
    (later.0, later.1, λ e has. subst (λ (f : Found). Contains f.entries e) (sym are.4) (Contains-append_right are.0.entries are.1.entries e (later.2 e has)))

apart : (l n : ℕ) → l ≡ 0 → l ≡ suc n → ⊥
apart l n one two = omega (arith, one, two)

tree-has : (t : FileTree) (n : ℕ) (top : Seat) (found : Found) → IsTree t n top found → (path : List ℕ) (seat : Seat) (page : Page) → Leads t top path seat → page_at t seat ≡ Ok page → page.level ≡ 0
    → (e : List ℕ) → Contains page.entries e → Contains found.entries e
tree-has t zero top found tree [] seat page leads right leaf e has =
    let here : page_at t top ≡ Ok page = ap (page_at t) (sym leads) ∙ right in
    let same : page ≡ tree.0 = same_page (page_at t top) tree.0 page (stands-read t top tree.0 tree.1) here in
    subst (λ (f : Found). Contains f.entries e) (sym tree.3) (subst (λ (p : Page). Contains p.entries e) same has)
tree-has t zero top found tree (i ∷ path) seat page leads right leaf e has =
    let same : leads.0 ≡ tree.0 = same_page (page_at t top) tree.0 leads.0 (stands-read t top tree.0 tree.1) leads.4 in
    absurd (apart tree.0.level leads.1 tree.2 (ap (λ (p : Page). p.level) (sym same) ∙ leads.5))
tree-has t (suc n) top found tree [] seat page leads right leaf e has =
    let here : page_at t top ≡ Ok page = ap (page_at t) (sym leads) ∙ right in
    let same : page ≡ tree.0 = same_page (page_at t top) tree.0 page (stands-read t top tree.0 tree.2) here in
    absurd (apart page.level n leaf (ap (λ (p : Page). p.level) same ∙ tree.3))
tree-has t (suc n) top found tree (i ∷ path) seat page leads right leaf e has =
    let same : leads.0 ≡ tree.0 = same_page (page_at t top) tree.0 leads.0 (stands-read t top tree.0 tree.2) leads.4 in
    let levels : suc leads.1 ≡ suc n = sym leads.5 ∙ ap (λ (p : Page). p.level) same ∙ tree.3 in
    let level : leads.1 ≡ n = omega (arith, levels) in
    let here : drop i tree.0.entries ≡ leads.2 ∷ leads.3 = ap (λ (p : Page). drop i p.entries) (sym same) ∙ leads.6 in
    let child : (first : Found) × IsTree t n (child_of t.rule n top.high leads.2 leads.3) first × ((x : List ℕ) → Contains first.entries x → Contains tree.1.entries x) =
    child-at (IsTree t n) t.rule n top.high tree.0.entries tree.1 i leads.2 leads.3 tree.4 here in
    let below : Leads t (child_of t.rule n top.high leads.2 leads.3) path seat = subst (λ (m : ℕ). Leads t (child_of t.rule m top.high leads.2 leads.3) path seat) level leads.7 in
    subst (λ (f : Found). Contains f.entries e) (sym tree.5) (child.2 e (tree-has t n (child_of t.rule n top.high leads.2 leads.3) child.0 child.1 path seat page below right leaf e has))

-- a whole tree has each entry that is reached
pub whole-has : (t : FileTree) (root : Bref) (found : Found) → IsWhole t root found → (e : List ℕ) → IsReached t (root_seat root) e → Contains found.entries e
whole-has t root found whole e r = tree-has t whole.level (root_seat root) found whole.tree r.path r.seat r.page r.leads r.right r.leaf e r.has
