-- A restriction: what a search asks of a message.
use Rattle.std.specs.Prelude.{ℕ, suc, ◌+◌, List, max}
use Rattle.mapi_values.specs.Values.{Val}
use Rattle.mapi_values.specs.declared.value.Tag.{Tag}
use Rattle.restr_codec.specs.declared.restriction.BitTest.{BitTest}
use Rattle.restr_codec.specs.declared.restriction.FuzzyLevel.{FuzzyLevel}
use Rattle.restr_codec.specs.declared.restriction.FuzzyFlags.{FuzzyFlags}
use Rattle.restr_codec.specs.declared.restriction.Relation.{Relation}
use Rattle.restr_codec.specs.declared.restriction.SubTable.{SubTable}

mutual
  -- the restrictions of the standard, each by its own name; a remark is a comment without a restriction
  pub data Restr : Type 0 where
    and_of : Restrs → Restr
    or_of : Restrs → Restr
    not_of : Restr → Restr
    content : FuzzyLevel → FuzzyFlags → Val → Restr
    property : Relation → Val → Restr
    compare : Relation → Tag → Tag → Restr
    bit_mask : BitTest → Tag → ℕ → Restr
    size_of : Relation → Tag → ℕ → Restr
    exist : Tag → Restr
    sub_object : SubTable → Restr → Restr
    remark : List Val → Restr
    comment : List Val → Restr → Restr

  -- some restrictions, in their order
  pub data Restrs : Type 0 where
    none : Restrs
    more : Restr → Restrs → Restrs

-- how many restrictions stand in it, itself too
abbrev mutual
  pub count : Restr → ℕ
  count (and_of rs) = suc (count_all rs)
  count (or_of rs) = suc (count_all rs)
  count (not_of r) = suc (count r)
  count (content level flags v) = 1
  count (property relation v) = 1
  count (compare relation a b) = 1
  count (bit_mask test t mask) = 1
  count (size_of relation t n) = 1
  count (exist t) = 1
  count (sub_object table r) = suc (count r)
  count (remark vs) = 1
  count (comment vs r) = suc (count r)

  -- how many stand in some restrictions
  pub count_all : Restrs → ℕ
  count_all none = 0
  count_all (more r rs) = count r + count_all rs

-- how many restrictions stand within one another where they are most, itself too
abbrev mutual
  pub depth : Restr → ℕ
  depth (and_of rs) = suc (depth_of_all rs)
  depth (or_of rs) = suc (depth_of_all rs)
  depth (not_of r) = suc (depth r)
  depth (content level flags v) = 1
  depth (property relation v) = 1
  depth (compare relation a b) = 1
  depth (bit_mask test t mask) = 1
  depth (size_of relation t n) = 1
  depth (exist t) = 1
  depth (sub_object table r) = suc (depth r)
  depth (remark vs) = 1
  depth (comment vs r) = suc (depth r)

  -- the most of some restrictions
  pub depth_of_all : Restrs → ℕ
  depth_of_all none = 0
  depth_of_all (more r rs) = max (depth r) (depth_of_all rs)

-- how many restrictions there are, without those within them
abbrev pub how_many : Restrs → ℕ
how_many none = 0
how_many (more r rs) = suc (how_many rs)
