-- A restriction as a list: itself, and then what stands within it, in the order in which it is written.
use Rattle.std.specs.Prelude.{◌≡◌, ℕ, zero, suc, List, [], ◌∷◌, ◌++◌, refl}
use Rattle.std.proofs.Common.{ap, ◌∙◌, append_assoc}
use Rattle.std.specs.Coded.{Coded, code_by}
use Rattle.mapi_values.specs.Values.{Val}
use Rattle.mapi_values.specs.declared.value.Tag.{Tag}
use Rattle.restr_codec.specs.declared.restriction.BitTest.{BitTest}
use Rattle.restr_codec.specs.declared.restriction.FuzzyLevel.{FuzzyLevel}
use Rattle.restr_codec.specs.declared.restriction.FuzzyFlags.{FuzzyFlags}
use Rattle.restr_codec.specs.declared.restriction.Relation.{Relation}
use Rattle.restr_codec.specs.declared.restriction.SubTable.{SubTable}
use Rattle.restr_codec.specs.Restr.{Restr, Restrs, and_of, or_of, not_of, content, property, compare, bit_mask, size_of, exist, sub_object, remark, comment, none, more, how_many}

-- one restriction, without those within it; of some together their number is there
pub data Item : Type 0 where
  And : ℕ → Item
  Or : ℕ → Item
  Not : Item
  Content : FuzzyLevel → FuzzyFlags → Val → Item
  Property : Relation → Val → Item
  Compare : Relation → Tag → Tag → Item
  BitMask : BitTest → Tag → ℕ → Item
  Size : Relation → Tag → ℕ → Item
  Exist : Tag → Item
  SubObject : SubTable → Item
  Remark : List Val → Item
  Comment : List Val → Item

-- a restriction and those within it, in their order
abbrev mutual
  pub items : Restr → List Item
  items (and_of rs) = And (how_many rs) ∷ items_of_all rs
  items (or_of rs) = Or (how_many rs) ∷ items_of_all rs
  items (not_of r) = Not ∷ items r
  items (content level flags v) = Content level flags v ∷ []
  items (property relation v) = Property relation v ∷ []
  items (compare relation a b) = Compare relation a b ∷ []
  items (bit_mask test t mask) = BitMask test t mask ∷ []
  items (size_of relation t n) = Size relation t n ∷ []
  items (exist t) = Exist t ∷ []
  items (sub_object table r) = SubObject table ∷ items r
  items (remark vs) = Remark vs ∷ []
  items (comment vs r) = Comment vs ∷ items r

  -- the same of some restrictions
  pub items_of_all : Restrs → List Item
  items_of_all none = []
  items_of_all (more r rs) = items r ++ items_of_all rs

-- the first of some restrictions; there always is one where it is asked for
abbrev first : Restrs → Restr
first none = and_of none
first (more r rs) = r

-- those after the first
abbrev behind : Restrs → Restrs
behind none = none
behind (more r rs) = rs

-- the first n
abbrev front : ℕ → Restrs → Restrs
front zero rs = none
front (suc n) none = none
front (suc n) (more r rs) = more r (front n rs)

-- those after the first n
abbrev beyond : ℕ → Restrs → Restrs
beyond zero rs = rs
beyond (suc n) none = none
beyond (suc n) (more r rs) = beyond n rs

-- the restrictions that items spell, from the last item on
-- an item before the restrictions that the items after it spell
abbrev put_item : Item → Restrs → Restrs
put_item (And n) rs = more (and_of (front n rs)) (beyond n rs)
put_item (Or n) rs = more (or_of (front n rs)) (beyond n rs)
put_item Not rs = more (not_of (first rs)) (behind rs)
put_item (Content level flags v) rs = more (content level flags v) rs
put_item (Property relation v) rs = more (property relation v) rs
put_item (Compare relation a b) rs = more (compare relation a b) rs
put_item (BitMask test t mask) rs = more (bit_mask test t mask) rs
put_item (Size relation t n) rs = more (size_of relation t n) rs
put_item (Exist t) rs = more (exist t) rs
put_item (SubObject table) rs = more (sub_object table (first rs)) (behind rs)
put_item (Remark vs) rs = more (remark vs) rs
put_item (Comment vs) rs = more (comment vs (first rs)) (behind rs)

abbrev spelled : List Item → Restrs
spelled [] = none
spelled (i ∷ is) = put_item i (spelled is)

-- the one and then the other restrictions
abbrev joined : Restrs → Restrs → Restrs
joined none ss = ss
joined (more r rs) ss = more r (joined rs ss)

front-joined : (rs ss : Restrs) → front (how_many rs) (joined rs ss) ≡ rs
front-joined none ss = refl
front-joined (more r rs) ss = ap (more r) (front-joined rs ss)

beyond-joined : (rs ss : Restrs) → beyond (how_many rs) (joined rs ss) ≡ ss
beyond-joined none ss = refl
beyond-joined (more r rs) ss = beyond-joined rs ss

-- the first n as one restriction, and those after them
abbrev grouped : (Restrs → Restr) → ℕ → Restrs → Restrs
grouped f n all = more (f (front n all)) (beyond n all)

group : (f : Restrs → Restr) (rs ss : Restrs) → grouped f (how_many rs) (joined rs ss) ≡ more (f rs) ss
group f rs ss = ap (λ x. more (f x) (beyond (how_many rs) (joined rs ss))) (front-joined rs ss) ∙ ap (more (f rs)) (beyond-joined rs ss)

mutual
  spelled-items : (r : Restr) (is : List Item) → spelled (items r ++ is) ≡ more r (spelled is)
  spelled-items (and_of rs) is = ap (grouped and_of (how_many rs)) (spelled-all rs is) ∙ group and_of rs (spelled is)
  spelled-items (or_of rs) is = ap (grouped or_of (how_many rs)) (spelled-all rs is) ∙ group or_of rs (spelled is)
  spelled-items (not_of r) is = ap (put_item Not) (spelled-items r is)
  spelled-items (content level flags v) is = refl
  spelled-items (property relation v) is = refl
  spelled-items (compare relation a b) is = refl
  spelled-items (bit_mask test t mask) is = refl
  spelled-items (size_of relation t n) is = refl
  spelled-items (exist t) is = refl
  spelled-items (sub_object table r) is = ap (put_item (SubObject table)) (spelled-items r is)
  spelled-items (remark vs) is = refl
  spelled-items (comment vs r) is = ap (put_item (Comment vs)) (spelled-items r is)

  spelled-all : (rs : Restrs) (is : List Item) → spelled (items_of_all rs ++ is) ≡ joined rs (spelled is)
  spelled-all none is = refl
  spelled-all (more r rs) is = ap spelled (append_assoc (items r) (items_of_all rs) is) ∙ (spelled-items r (items_of_all rs ++ is) ∙ ap (more r) (spelled-all rs is))

-- the restriction that items spell
abbrev pub spelled_first : List Item → Restr
spelled_first is = first (spelled is)

-- items tell restrictions apart
pub one-spelled : (r : Restr) → spelled_first (items r ++ []) ≡ r
one-spelled r = ap first (spelled-items r [])

-- a restriction is told from others by its items
abbrev pub restr_code : Coded (List Item) → Coded Restr
restr_code c = code_by (List Item) c (λ r. items r ++ []) spelled_first one-spelled
