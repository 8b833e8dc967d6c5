-- What a walk over bytes has read so far, and what it comes to.
use Rattle.std.proofs.Common.{◌≡◌, ◌≤◌, ◌<◌, ◌&&◌, ◌+◌, ◌^◌, nat_lt, nat_le, ℕ, suc, Bool, true, false, List, [], ◌∷◌, ◌++◌, length, map, take, drop, get_or, Option, Some, None, Result, Ok, Err, All, IfOk, Vec, Global, inl, inr, refl, sym, ap, ◌∙◌, arith}
use Rattle.std.proofs.lemmas.Bool.{cases_lt, lt-leb, le-ltb, le-leb, lt-ltb}
use Rattle.std.proofs.lemmas.List.{append-nil, map_push, drop_at, drop_more, get_or-map, length-map, get_or_append_left, get_or_push, length_push}
use Rattle.std.specs.Option.{option_and_then}
use Rattle.byteorder.specs.Endian.{little_number}
use Rattle.pst_base.specs.declared.stops.MemOr.{MemOr}
use Rattle.pst_base.specs.declared.stops.MemOr.TheVariants.{Memory, Refused}
use Rattle.pst_base.specs.Stops.{Finds, StopsAtNone}
use Rattle.bth_tree.specs.declared.record.Record.{Record}
use Rattle.bth_tree.specs.declared.record.BthFault.{BthFault}
use Rattle.bth_tree.specs.Answers.{IsRecord, Puts, seen}
use Rattle.bth_tree.specs.Records.{ordered, record_of, within}
use Rattle.bth_tree.specs.Tree.{filled}
use Rattle.bth_tree.proofs.OptionLaws.{before, before-more, none-some}
use Rattle.bth_tree.proofs.RecordLaws.{ordered-step}

-- a refusal goes along
pub stops-along : {Y Z F : Type 0} (e : MemOr F) (a : Option Y) (b : Option Z) → (a ≡ None → b ≡ None) → StopsAtNone e a → StopsAtNone e b
stops-along Memory a b f h = tt
stops-along (Refused fault) a b f h = f h

-- nothing is left to read
pub before-done : (out0 out : List (ℕ × List ℕ)) (o : Option (List (ℕ × List ℕ))) → Some (out ++ []) ≡ before out0 o → (rs : List (ℕ × List ℕ)) × (o ≡ Some rs) × (out ≡ out0 ++ rs)
before-done out0 out None h = absurd (none-some (out ++ []) (sym h))
before-done out0 out (Some rs) h = let e : out ++ [] ≡ out0 ++ rs = cc in (rs, refl, sym (append-nil out) ∙ e)

pub seen-is : (r : Record) (key : ℕ) (entry : List ℕ) → r.key ≡ key → r.entry.now ≡ entry → seen r ≡ (key, entry)
seen-is r key entry a b = ap (λ (n : ℕ). (n, r.entry.now)) a ∙ ap (λ (x : List ℕ). (key, x)) b

-- one more record of a leaf
pub leaf-step : (k e low high : ℕ) (x rest : List ℕ) (out0 : List (ℕ × List ℕ)) (out : List Record) (r : Record) → 0 < k → k + e ≤ length rest → low ≤ r.key → r.key < high
    → r.key ≡ little_number k (take (k + e) rest) → r.entry.now ≡ drop k (take (k + e) rest)
    → before (map seen out) (ordered k e low high rest) ≡ before out0 (ordered k e 0 high x)
    → before (map seen (out ++ r ∷ [])) (ordered k e (r.key + 1) high (drop (k + e) rest)) ≡ before out0 (ordered k e 0 high x)
leaf-step k e low high x rest out0 out r pos room above below key entry so_far =
    let next : r.key + 1 ≡ suc (little_number k (take (k + e) rest)) = omega arith in
    ap (λ (rs : List (ℕ × List ℕ)). before rs (ordered k e (r.key + 1) high (drop (k + e) rest)))
    (map_push seen out r ∙ ap (λ (s : ℕ × List ℕ). map seen out ++ s ∷ []) (seen-is r (little_number k (take (k + e) rest)) (drop k (take (k + e) rest)) key entry))
    ∙ ap (λ (n : ℕ). before (map seen out ++ record_of k (take (k + e) rest) ∷ []) (ordered k e n high (drop (k + e) rest))) next
    ∙ before-more (map seen out) (record_of k (take (k + e) rest) ∷ []) (ordered k e (suc (little_number k (take (k + e) rest))) high (drop (k + e) rest))
    ∙ ap (before (map seen out)) (sym (ordered-step k e low high rest pos room (omega arith) (omega arith)))
    ∙ so_far

pub filled-some : (xs : List (ℕ × List ℕ)) → 0 < length xs → filled xs ≡ Some xs
filled-some [] h = absurd (omega arith)
filled-some (x ∷ xs) h = refl

-- the records behind the first n are the last that were put
pub ends-filled : {X : Type 0} (r : Result X (MemOr BthFault)) (old new : List Record) (n : ℕ) (read inner : Option (List (ℕ × List ℕ)))
    → read ≡ option_and_then filled inner → (rs : List (ℕ × List ℕ)) × (inner ≡ Some rs) × (map seen new ≡ map seen old ++ rs) → n ≡ length old
    → Finds (λ (x : X). drop n (map seen new)) r (filled (drop n (map seen new))) → Puts r read old new
ends-filled (Ok x) old new n read inner is put len finds =
    let rs = put.0 in
    let same : drop n (map seen new) ≡ put.0 = ap (drop n) put.2 ∙ drop_at (map seen old) put.0 n (length-map old seen ∙ sym len) in
    (put.0, is ∙ ap (option_and_then filled) put.1 ∙ ap filled (sym same) ∙ finds ∙ ap Some same, put.2)
ends-filled (Err Memory) old new n read inner is put len finds = tt
ends-filled (Err (Refused f)) old new n read inner is put len finds =
    let same : drop n (map seen new) ≡ put.0 = ap (drop n) put.2 ∙ drop_at (map seen old) put.0 n (length-map old seen ∙ sym len) in
    is ∙ ap (option_and_then filled) put.1 ∙ ap filled (sym same) ∙ finds

-- what a read past the end of records would give
abbrev pub no_record : Record
no_record = record { key = 0; entry = record { ref_ptr = (0, 0); now = [] } }

-- the keys from place i on
lie-step : (rs : List Record) (i low high : ℕ) → i < length rs
    → within low high (drop i (map seen rs)) ≡ (nat_le low (get_or rs i no_record).key && (nat_lt (get_or rs i no_record).key high && within (suc (get_or rs i no_record).key) high (drop (i + 1) (map seen rs))))
lie-step rs i low high h =
    ap (within low high) (drop_more (map seen rs) i (seen no_record) (omega (arith, length-map rs seen)) ∙ ap (λ (r : ℕ × List ℕ). r ∷ drop (i + 1) (map seen rs)) (get_or-map seen rs i no_record (seen no_record) h))

pub lie-low : (rs : List Record) (i low high key : ℕ) → i < length rs → key ≡ (get_or rs i no_record).key → key < low → within low high (drop i (map seen rs)) ≡ false
lie-low rs i low high key h is below = lie-step rs i low high h
    ∙ ap (λ (b : Bool). b && (nat_lt (get_or rs i no_record).key high && within (suc (get_or rs i no_record).key) high (drop (i + 1) (map seen rs)))) (lt-leb low (get_or rs i no_record).key (omega arith))

pub lie-high : (rs : List Record) (i low high key : ℕ) → i < length rs → key ≡ (get_or rs i no_record).key → low ≤ key → high ≤ key → within low high (drop i (map seen rs)) ≡ false
lie-high rs i low high key h is above out = lie-step rs i low high h
    ∙ ap (λ (b : Bool). b && (nat_lt (get_or rs i no_record).key high && within (suc (get_or rs i no_record).key) high (drop (i + 1) (map seen rs)))) (le-leb low (get_or rs i no_record).key (omega arith))
    ∙ ap (λ (b : Bool). b && within (suc (get_or rs i no_record).key) high (drop (i + 1) (map seen rs))) (le-ltb (get_or rs i no_record).key high (omega arith))

pub lie-next : (rs : List Record) (i low high key : ℕ) → i < length rs → key ≡ (get_or rs i no_record).key → low ≤ key → key < high
    → within (key + 1) high (drop (i + 1) (map seen rs)) ≡ within low high (drop i (map seen rs))
lie-next rs i low high key h is above below =
    let next : key + 1 ≡ suc (get_or rs i no_record).key = omega arith in
    ap (λ (n : ℕ). within n high (drop (i + 1) (map seen rs))) next
    ∙ sym (lie-step rs i low high h
    ∙ ap (λ (b : Bool). b && (nat_lt (get_or rs i no_record).key high && within (suc (get_or rs i no_record).key) high (drop (i + 1) (map seen rs)))) (le-leb low (get_or rs i no_record).key (omega arith))
    ∙ ap (λ (b : Bool). b && within (suc (get_or rs i no_record).key) high (drop (i + 1) (map seen rs))) (lt-ltb (get_or rs i no_record).key high (omega arith)))

-- one more record of these lengths
pub each-push : (k e : ℕ) (rs : List Record) (r : Record) → All (IsRecord k e) rs → IsRecord k e r → All (IsRecord k e) (rs ++ r ∷ [])
each-push k e rs r all here = λ i d h. elim (cases_lt i (length rs)) [
  | inl low ↦ rw (get_or_append_left rs (r ∷ []) d i low) (all i d low)
  | inr high ↦ rw (get_or_push rs r d i (omega (arith, length_push rs r, high, h))) here
]

-- the records that were found ascend, if all that can be found do
pub ascends : {F : Type 0} (r : Result (Vec Record Global) (MemOr F)) (read : Option (List (ℕ × List ℕ))) → Finds (λ (v : Vec Record Global). map seen v.items) r read
    → ((rs : List (ℕ × List ℕ)) → read ≡ Some rs → within 0 (2 ^ 32) rs ≡ true) → IfOk r (λ (v : Vec Record Global). within 0 (2 ^ 32) (map seen v.items) ≡ true)
ascends (Ok v) read finds all = all (map seen v.items) finds
ascends (Err e) read finds all = tt
