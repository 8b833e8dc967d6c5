-- Pages of a plan that are written.
use Rattle.std.proofs.Common.{◌≡◌, true, ℕ, zero, suc, ◌+◌, ◌<◌, ◌≤◌, ◌^◌, List, [], ◌∷◌, ◌++◌, map, take, length, get_or, refl, sym, ap, ◌∙◌, arith}
use Rattle.std.proofs.lemmas.Bool.{lt-ltb}
use Rattle.std.proofs.lemmas.List.{length-map, map-append, map_more, take_all}
use Rattle.std.proofs.lemmas.Simd.{map-map}
use Rattle.pst_base.specs.Ids.{key_of}
use Rattle.btree_pages.specs.declared.entry.BlockEntry.{BlockEntry}
use Rattle.btree_pages.specs.declared.inner.Inner.{Inner}
use Rattle.btree_pages.specs.Pages.{ascend, rise_above}
use Rattle.tree_edit.specs.declared.plan.Child.{Child}
use Rattle.tree_edit.specs.declared.plan.PlanPage.{PlanPage}
use Rattle.tree_edit.specs.Shapes.{RiseIn}
use Rattle.tree_edit.specs.Plans.{AreKeys, AreWritable, IsWritable, keys_of}

rise-above : (x high : ℕ) (ks : List ℕ) → RiseIn (x + 1) high ks → rise_above x ks ≡ true
rise-above x high [] r = refl
rise-above x high (k ∷ ks) r = let a = r.0 in rw (lt-ltb x k (omega (arith, a))) (rise-above k high ks r.2)

-- keys that rise ascend
pub rise-ascends : (low high : ℕ) (ks : List ℕ) → RiseIn low high ks → ascend ks ≡ true
rise-ascends low high [] r = refl
rise-ascends low high (k ∷ ks) r = rise-above k high ks r.2

-- the entries so far have the children's keys
pub keys-next : (cs : List (ℕ × Child)) (es next : List Inner) (i : ℕ) (e : Inner) (c : ℕ × Child) → i < length cs → map (λ (x : Inner). x.key) es ≡ keys_of (take i cs) → next ≡ es ++ (e ∷ []) → e.key ≡ c.0 → c ≡ get_or cs i c
    → map (λ (x : Inner). x.key) next ≡ keys_of (take (i + 1) cs)
keys-next cs es next i e c h so_far is same here =
    ap (map (λ (x : Inner). x.key)) is ∙ map-append (λ (x : Inner). x.key) es (e ∷ []) ∙ ap (λ (l : List ℕ). l ++ (e.key ∷ [])) so_far
    ∙ ap (λ (k : ℕ). keys_of (take i cs) ++ (k ∷ [])) (same ∙ ap (λ (x : ℕ × Child). x.0) here) ∙ sym (map_more (λ (x : ℕ × Child). x.0) cs i c h)

pub keys-all : (cs : List (ℕ × Child)) (es : List Inner) (i : ℕ) → length cs ≤ i → map (λ (x : Inner). x.key) es ≡ keys_of (take i cs) → map (λ (x : Inner). x.key) es ≡ keys_of cs
keys-all cs es i end so_far = so_far ∙ ap keys_of (take_all i cs end)

pub keys-few : (cs : List (ℕ × Child)) (es : List Inner) → map (λ (x : Inner). x.key) es ≡ keys_of cs → length cs ≤ 20 → length es ≤ 20
keys-few cs es same few =
    let a = length-map es (λ (x : Inner). x.key) in
    let b = length-map cs (λ (x : ℕ × Child). x.0) in
    let c = ap (λ (l : List ℕ). length l) same in
    omega (arith, a, b, c, few)

same-keys : (ks : List ℕ) → AreKeys key_of ks → map key_of ks ≡ ks
same-keys [] a = refl
same-keys (k ∷ ks) a = ap (λ (x : ℕ). x ∷ map key_of ks) a.0 ∙ ap (λ (l : List ℕ). k ∷ l) (same-keys ks a.1)

pub keys-ascend : (cs : List (ℕ × Child)) (es : List Inner) → map (λ (x : Inner). x.key) es ≡ keys_of cs → RiseIn 0 (2 ^ 64) (keys_of cs) → AreKeys key_of (keys_of cs) → ascend (map (λ (x : Inner). key_of x.key) es) ≡ true
keys-ascend cs es same rises keys =
    ap ascend (sym (map-map key_of (λ (x : Inner). x.key) es) ∙ ap (map key_of) same ∙ same-keys (keys_of cs) keys) ∙ rise-ascends 0 (2 ^ 64) (keys_of cs) rises

pub writable-at : (ps : List (PlanPage BlockEntry)) (i : ℕ) (d : PlanPage BlockEntry) → AreWritable (λ (e : BlockEntry). key_of e.at.bid.bits) key_of 24 ps → i < length ps → IsWritable (λ (e : BlockEntry). key_of e.at.bid.bits) key_of 24 (get_or ps i d)
writable-at [] i d a h = absurd (omega (arith, h))
writable-at (p ∷ ps) zero d a h = a.0
writable-at (p ∷ ps) (suc i) d a h = writable-at ps i d a.1 (omega (arith, h))
