-- The numbers of references that change where some are taken and others put.
use Rattle.std.specs.Prelude.{◌≡◌, ◌==◌, ℕ, ◌+◌, ◌-◌, if◌then◌else◌, List, Option, None, Some, All}
use Rattle.data_tree.specs.Keys.{count_of}
use Rattle.ref_counts.specs.declared.table.RefChange.{RefChange}
use Rattle.ref_counts.specs.Tables.{entry_at, first, HasKey, IsAscending}

-- the key of a change
abbrev pub key_in : RefChange → ℕ
key_in c = c.key

-- the number of a key after so many references were taken and so many put
abbrev pub number_after : (ℕ → ℕ) → List ℕ → List ℕ → ℕ → ℕ
number_after refs taken put key = (refs key - count_of key taken) + count_of key put

-- the change of a key, if there is one
abbrev pub change_of : ℕ → List RefChange → Option RefChange
change_of key cs = entry_at key_in key cs

-- the number that a change leaves of a number before
abbrev pub number_by : Option RefChange → ℕ → ℕ
number_by None before = before
number_by (Some c) before = c.after

-- a change says the numbers of its key before and after, which differ
pub record IsRefChange (refs : ℕ → ℕ) (taken put : List ℕ) (c : RefChange) : Type 0 where
  pub before : c.before ≡ refs c.key
  pub after : c.after ≡ number_after refs taken put c.key
  pub differs : c.before ≡ c.after → ⊥

-- The changes are those of all keys whose numbers change, and their keys ascend.
pub record AreRefChanges (refs : ℕ → ℕ) (taken put : List ℕ) (cs : List RefChange) : Type 0 where
  pub ascend : IsAscending key_in cs
  pub each : All (IsRefChange refs taken put) cs
  pub others : (key : ℕ) → change_of key cs ≡ None → number_after refs taken put key ≡ refs key

-- the keys of changes ascend, and each has an entry in the table
pub record HasRoomFor (entries : List (ℕ × ℕ)) (cs : List RefChange) : Type 0 where
  pub ascend : IsAscending key_in cs
  pub here : All (λ (c : RefChange). HasKey entries c.key) cs

-- ---- by tables

-- the numbers of a key before and after, by the numbers that are there, taken and put
abbrev pub change_at : (refs taken put : ℕ → ℕ) → ℕ → RefChange
change_at refs taken put key = record { key = key; before = refs key; after = (refs key - taken key) + put key }

-- what is listed of a key: its change, where its number changes
abbrev pub listed_of : RefChange → Option RefChange
listed_of c = if c.before == c.after then None else Some c

-- what is listed of the key of an entry
abbrev pub listed_at : (refs taken put : ℕ → ℕ) → Option (ℕ × ℕ) → Option RefChange
listed_at refs taken put None = None
listed_at refs taken put (Some e) = listed_of (change_at refs taken put e.0)

-- the changes are those of the keys of these entries
pub record AreAllChanges (refs taken put : ℕ → ℕ) (touched : List (ℕ × ℕ)) (cs : List RefChange) : Type 0 where
  pub ascend : IsAscending key_in cs
  pub are : (key : ℕ) → change_of key cs ≡ listed_at refs taken put (entry_at first key touched)
