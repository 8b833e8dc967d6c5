-- Finding a subnode in a flat list.
use Rattle.std.proofs.Common.{◌≡◌, ◌∙◌, Bool, ℕ, ◌==◌, true, false, List, [], ◌∷◌, Some, None, refl, ap, inl, inr}
use Rattle.std.proofs.lemmas.Bool.{cases_Bool, ne_eqb}
use Rattle.std.specs.Option.{option_map}
use Rattle.pst_base.specs.Flat.{Flat}
use Rattle.pst_base.specs.Subs.{flattened}
use Rattle.pst_base.specs.declared.subs.Sub.{Sub}
use Rattle.mapi_values.specs.Keyed.{find_key}
use Rattle.node_values.proofs.SubLaws.{subnode-first}
use Rattle.node_values.specs.Subnodes.{below, contents, one_up, sub_id, subnode, without}

-- a subnode of the flat list is one of those directly in it
pub subnode-found : (subs : List Sub) (nid : ℕ) → subnode (flattened subs) nid ≡ option_map contents (find_key sub_id nid subs)
subnode-found [] nid = refl
subnode-found (s ∷ subs) nid = subnode-first nid s subs ∙ elim (cases_Bool (s.nid.bits == nid)) [ inl t ↦ rw t refl | inr f ↦ rw f (subnode-found subs nid) ]

-- what goes above a subnode takes along what stands below it
below-gone : (test : ℕ → Bool) (fs : List Flat) → below (without test true fs) ≡ []
below-gone test [] = refl
below-gone test (f ∷ fs) = elim (cases_Bool (f.level == 0)) [
  | inl t ↦ rw t (elim (cases_Bool (test f.nid)) [ inl y ↦ rw y (below-gone test fs) | inr n ↦ rw (n, t) refl ])
  | inr e ↦ rw e (below-gone test fs)
]

below-kept : (test : ℕ → Bool) (fs : List Flat) → below (without test false fs) ≡ below fs
below-kept test [] = refl
below-kept test (f ∷ fs) = elim (cases_Bool (f.level == 0)) [
  | inl t ↦ rw t (elim (cases_Bool (test f.nid)) [ inl y ↦ rw y (below-gone test fs) | inr n ↦ rw (n, t) refl ])
  | inr e ↦ rw (e, e) (ap (λ (hs : List Flat). one_up f ∷ hs) (below-kept test fs))
]

-- a subnode is found among those that stay, if its id doesn't pass
pub subnode-kept : (test : ℕ → Bool) (gone : Bool) (fs : List Flat) (nid : ℕ) → test nid ≡ false → subnode (without test gone fs) nid ≡ subnode fs nid
subnode-kept test gone [] nid out = refl
subnode-kept test gone (f ∷ fs) nid out = elim (cases_Bool (f.level == 0)) [
  | inl t ↦ rw t (elim (cases_Bool (test f.nid)) [
    | inl y ↦ rw y (let apart : (f.nid == nid) ≡ false = ne_eqb f.nid nid (λ e. cc) in rw apart (subnode-kept test true fs nid out))
    | inr n ↦ rw (n, t) (elim (cases_Bool (f.nid == nid)) [ inl y2 ↦ rw y2 (ap (λ (hs : List Flat). Some (f.blocks, hs)) (below-kept test fs)) | inr n2 ↦ rw n2 (subnode-kept test false fs nid out) ])
  ])
  | inr e ↦ rw e (elim (cases_Bool gone) [ inl y ↦ rw y (subnode-kept test true fs nid out) | inr n ↦ rw (n, e) (subnode-kept test false fs nid out) ])
]

-- and not, if it does
pub subnode-gone : (test : ℕ → Bool) (gone : Bool) (fs : List Flat) (nid : ℕ) → test nid ≡ true → subnode (without test gone fs) nid ≡ None
subnode-gone test gone [] nid own = refl
subnode-gone test gone (f ∷ fs) nid own = elim (cases_Bool (f.level == 0)) [
  | inl t ↦ rw t (elim (cases_Bool (test f.nid)) [
    | inl y ↦ rw y (subnode-gone test true fs nid own)
    | inr n ↦ let apart : (f.nid == nid) ≡ false = ne_eqb f.nid nid (λ e. cc) in rw (n, t, apart) (subnode-gone test false fs nid own)
  ])
  | inr e ↦ rw e (elim (cases_Bool gone) [ inl y ↦ rw y (subnode-gone test true fs nid own) | inr n ↦ rw (n, e) (subnode-gone test false fs nid own) ])
]
