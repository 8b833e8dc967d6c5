-- A leaf's bytes with a record put or left out.
use Rattle.std.proofs.Common.{◌≡◌, ◌≢◌, ◌≤◌, ◌<◌, ◌+◌, ◌-◌, ◌*◌, ◌/◌, ◌^◌, if◌then◌else◌, inl, inr, ℕ, suc, true, List, [], ◌∷◌, ◌++◌, length, take, drop, Option, Some, None, refl, sym, ap, ◌∙◌, subst, length-append, length-drop, length-take, arith}
use Rattle.std.proofs.lemmas.Bool.{cases_Bool, eq-eqb}
use Rattle.std.proofs.lemmas.List.{append-nil, nil_from_length, take-append-drop}
use Rattle.mapi_values.specs.Keyed.{put_key, drop_key}
use Rattle.pst_base.specs.Fields.{number_at}
use Rattle.bth_tree.specs.Find.{either}
use Rattle.bth_tree.specs.Records.{entry_of, ordered, whole, within}
use Rattle.bth_tree.specs.Tree.{end_of}
use Rattle.bth_tree.proofs.FindLaws.{entry-append}
use Rattle.bth_tree.proofs.OptionLaws.{bind-some, none-some, some-injective}
use Rattle.bth_tree.proofs.RecordLaws.{whole-none}
use Rattle.index_edit.specs.Edits.{CutsHalves, HoldLeaves}
use Rattle.index_edit.specs.Rows.{AreBelow, IsHere, IsSpan, key_of, rows}
use Rattle.index_edit.specs.declared.leaf.NewLeaves.{NewLeaves}
use Rattle.index_edit.specs.declared.leaf.NewLeaves.TheVariants.{One, Behind, Halves}
use Rattle.index_edit.proofs.CoverLaws.{within-right}
use Rattle.index_edit.proofs.KeyLaws.{above-within, drop-behind, drop-here, entry-above, entry-below, put-behind, put-here}
use Rattle.index_edit.proofs.RowLaws.{Spells, front-key, from-whole, rows-step, rows-whole, spells-length, spells-split, spliced-whole, to-whole}

pub ordered-parts : (x : List ℕ) (rs : List (ℕ × List ℕ)) → ordered 4 4 0 (2 ^ 32) x ≡ Some rs → (whole 4 4 x ≡ Some rs) × (within 0 (2 ^ 32) rs ≡ true)
unfolding ordered
ordered-parts x rs h =
    let b = bind-some (λ (ws : List (ℕ × List ℕ)). if within 0 (2 ^ 32) ws then Some ws else None) (whole 4 4 x) rs h in
    elim (cases_Bool (within 0 (2 ^ 32) b.0)) [
      | inl t ↦ let e = some-injective b.0 rs (rw t at b.2) in (b.1 ∙ ap Some e, ap (within 0 (2 ^ 32)) (sym e) ∙ t)
      | inr f ↦ absurd (none-some rs (rw f at b.2))
    ]

pub ordered-from : (x : List ℕ) (rs : List (ℕ × List ℕ)) → whole 4 4 x ≡ Some rs → within 0 (2 ^ 32) rs ≡ true → ordered 4 4 0 (2 ^ 32) x ≡ Some rs
unfolding ordered
ordered-from x rs h t = rw (h, t) refl

put-span : (x : ℕ × List ℕ) (rs : List (ℕ × List ℕ)) (from to : ℕ) (s : IsSpan x.0 rs from to) → put_key key_of x rs ≡ s.before ++ x ∷ s.after
put-span x rs from to s =
    ap (put_key key_of x) s.parts ∙ put-behind x s.before (s.here ++ s.after) s.below ∙ ap (λ (ws : List (ℕ × List ℕ)). s.before ++ ws) (put-here x s.here s.after s.is)

after-within : (key : ℕ) (rs : List (ℕ × List ℕ)) (from to : ℕ) (s : IsSpan key rs from to) → within 0 (2 ^ 32) rs ≡ true → within 0 (2 ^ 32) s.after ≡ true
after-within key rs from to s w =
    within-right 0 (2 ^ 32) s.here s.after (within-right 0 (2 ^ 32) s.before (s.here ++ s.after) (ap (within 0 (2 ^ 32)) (sym s.parts) ∙ w))

drop-span : (key : ℕ) (rs : List (ℕ × List ℕ)) (from to : ℕ) (s : IsSpan key rs from to) → within 0 (2 ^ 32) rs ≡ true → drop_key key_of key rs ≡ s.before ++ s.after
drop-span key rs from to s w =
    ap (drop_key key_of key) s.parts ∙ drop-behind key s.before (s.here ++ s.after) s.below
    ∙ ap (λ (ws : List (ℕ × List ℕ)). s.before ++ ws) (drop-here key 0 (2 ^ 32) s.here s.after s.is (after-within key rs from to s w))

-- the span among the records that the bytes read as
spans : (key : ℕ) (x : List ℕ) (rs : List (ℕ × List ℕ)) (from to : ℕ) → whole 4 4 x ≡ Some rs → IsSpan key (rows x) from to → IsSpan key rs from to
spans key x rs from to h s = subst (λ (ws : List (ℕ × List ℕ)). IsSpan key ws from to) (rows-whole x rs h) s

pub leaf-put : (key : ℕ) (e x b y : List ℕ) (rs : List (ℕ × List ℕ)) (from to : ℕ) → whole 4 4 x ≡ Some rs → IsSpan key (rows x) from to → whole 4 4 b ≡ Some ((key, e) ∷ [])
    → y ≡ take (8 * from) x ++ (b ++ drop (8 * to) x) → whole 4 4 y ≡ Some (put_key key_of (key, e) rs)
leaf-put key e x b y rs from to h span w is =
    let s = spans key x rs from to h span in
    ap (whole 4 4) is ∙ spliced-whole x b from to s.before s.here s.after ((key, e) ∷ []) (h ∙ ap Some s.parts) w s.starts s.ends ∙ ap Some (sym (put-span (key, e) rs from to s))

-- the key is above all others
pub leaf-behind : (key : ℕ) (e x : List ℕ) (rs : List (ℕ × List ℕ)) (from to : ℕ) → whole 4 4 x ≡ Some rs → IsSpan key (rows x) from to → 8 * from ≡ length x → put_key key_of (key, e) rs ≡ rs ++ (key, e) ∷ []
leaf-behind key e x rs from to h span full =
    let s = spans key x rs from to h span in
    let len = spells-length x rs (from-whole x rs h) in
    let parts = ap length s.parts in
    let inner = length-append s.before (s.here ++ s.after) in
    let outer = length-append s.here s.after in
    let here : s.here ≡ [] = nil_from_length s.here (omega (arith, len, parts, inner, outer, full, s.starts)) in
    let after : s.after ≡ [] = nil_from_length s.after (omega (arith, len, parts, inner, outer, full, s.starts)) in
    let same : rs ≡ s.before =
    s.parts ∙ ap (λ (ws : List (ℕ × List ℕ)). s.before ++ (ws ++ s.after)) here ∙ ap (λ (ws : List (ℕ × List ℕ)). s.before ++ ws) after ∙ append-nil s.before in
    put-span (key, e) rs from to s ∙ ap (λ (ws : List (ℕ × List ℕ)). s.before ++ (key, e) ∷ ws) after ∙ ap (λ (ws : List (ℕ × List ℕ)). ws ++ (key, e) ∷ []) (sym same)

pub leaf-first : (x : List ℕ) (rs : List (ℕ × List ℕ)) → whole 4 4 x ≡ Some rs → 8 ≤ length x → (number_at 4 0 x ≡ end_of rs) × (0 < length rs)
leaf-first x rs h room =
    (front-key x room ∙ ap end_of (sym (rows-step x room) ∙ rows-whole x rs h), omega (arith, room, spells-length x rs (from-whole x rs h)))

-- a leaf cut in the middle
pub leaf-halves : (y front back : List ℕ) (new : List (ℕ × List ℕ)) → whole 4 4 y ≡ Some new → front ≡ take (8 * (length y / 16)) y → back ≡ drop (8 * (length y / 16)) y
    → (xs : List (ℕ × List ℕ)) × (ys : List (ℕ × List ℕ)) × (whole 4 4 front ≡ Some xs) × (whole 4 4 back ≡ Some ys) × (new ≡ xs ++ ys)
leaf-halves y front back new h a b =
    let m = length y / 16 in
    let all = from-whole y new h in
    let joined = take-append-drop m new in
    let len = spells-length y new all in
    let s = spells-split y m (take m new) (drop m new) (omega (arith, length-take m new, len)) (subst (Spells y) (sym joined) all) in
    (take m new, drop m new, ap (whole 4 4) a ∙ to-whole (take (8 * m) y) (take m new) s.0, ap (whole 4 4) b ∙ to-whole (drop (8 * m) y) (drop m new) s.1, sym joined)

pub leaf-out : (key : ℕ) (x y : List ℕ) (rs : List (ℕ × List ℕ)) (from to : ℕ) → ordered 4 4 0 (2 ^ 32) x ≡ Some rs → IsSpan key (rows x) from to
    → y ≡ take (8 * from) x ++ ([] ++ drop (8 * to) x) → whole 4 4 y ≡ Some (drop_key key_of key rs)
leaf-out key x y rs from to o span is =
    let h = ordered-parts x rs o in
    let s = spans key x rs from to h.0 span in
    ap (whole 4 4) is ∙ spliced-whole x [] from to s.before s.here s.after [] (h.0 ∙ ap Some s.parts) (whole-none 4 4 (omega arith)) s.starts s.ends ∙ ap Some (sym (drop-span key rs from to s h.1))

entry-parts : (key : ℕ) (before here after : List (ℕ × List ℕ)) → AreBelow key before → entry_of key (before ++ (here ++ after)) ≡ entry_of key (here ++ after)
entry-parts key before here after h = entry-append key before (here ++ after) ∙ ap (λ (o : Option (List ℕ)). either o (entry_of key (here ++ after))) (entry-below key before h)

here-none : (key : ℕ) (here after : List (ℕ × List ℕ)) → length here ≡ 0 → IsHere key here after → within 0 (2 ^ 32) after ≡ true → entry_of key (here ++ after) ≡ None
here-none key [] after z h w = entry-above key (suc key) (2 ^ 32) after (omega arith) (above-within key 0 (2 ^ 32) after h w)
here-none key (r ∷ rs) after z h w = absurd (omega (arith, z))

here-some : (key : ℕ) (here after : List (ℕ × List ℕ)) → 0 < length here → IsHere key here after → entry_of key (here ++ after) ≢ None
here-some key [] after n h = absurd (omega (arith, n))
here-some key (r ∷ []) after n h = λ e. none-some r.1 (sym e ∙ rw (eq-eqb r.0 key h) refl)
here-some key (r ∷ (s ∷ rs)) after n h = absurd h

-- the key isn't there
pub leaf-same : (key : ℕ) (x : List ℕ) (rs : List (ℕ × List ℕ)) (from to : ℕ) → ordered 4 4 0 (2 ^ 32) x ≡ Some rs → IsSpan key (rows x) from to → from ≡ to
    → (drop_key key_of key rs ≡ rs) × (entry_of key rs ≡ None)
leaf-same key x rs from to o span same =
    let h = ordered-parts x rs o in
    let s = spans key x rs from to h.0 span in
    let none : s.here ≡ [] = nil_from_length s.here (omega (arith, s.ends, same)) in (
      drop-span key rs from to s h.1 ∙ sym (s.parts ∙ ap (λ (ws : List (ℕ × List ℕ)). s.before ++ (ws ++ s.after)) none),
      ap (entry_of key) s.parts ∙ entry-parts key s.before s.here s.after s.below ∙ here-none key s.here s.after (ap length none) s.is (after-within key rs from to s h.1),
    )

pub leaf-had : (key : ℕ) (x : List ℕ) (rs : List (ℕ × List ℕ)) (from to : ℕ) → ordered 4 4 0 (2 ^ 32) x ≡ Some rs → IsSpan key (rows x) from to → (from ≡ to → ⊥) → entry_of key rs ≢ None
leaf-had key x rs from to o span other =
    let h = ordered-parts x rs o in
    let s = spans key x rs from to h.0 span in
    let n : 0 < length s.here = some-length (length s.here) from to s.ends other in
    λ e. here-some key s.here s.after n s.is (sym (ap (entry_of key) s.parts ∙ entry-parts key s.before s.here s.after s.below) ∙ e)
  where
    some-length : (n from to : ℕ) → from + n ≡ to → (from ≡ to → ⊥) → 0 < n
    some-length n from to ends other = grind arith

-- how long a leaf is with a record put
pub put-length : (x b y : List ℕ) (from to : ℕ) → length b ≡ 8 → from ≤ to → 8 * to ≤ length x → y ≡ take (8 * from) x ++ (b ++ drop (8 * to) x) → (length y ≡ 8 * from + 8 + (length x - 8 * to)) × (8 ≤ length y)
put-length x b y from to eight order within is =
    let e : length y ≡ 8 * from + 8 + (length x - 8 * to) =
    ap length is ∙ omega (arith, length-append (take (8 * from) x) (b ++ drop (8 * to) x), length-append b (drop (8 * to) x), length-take (8 * from) x, length-drop (8 * to) x, eight, order, within) in
    (e, omega (arith, e))

-- the halves hold what the bytes do
pub cut-holds : (key : ℕ) (e y : List ℕ) (rs : List (ℕ × List ℕ)) (leaves : NewLeaves) → whole 4 4 y ≡ Some (put_key key_of (key, e) rs) → CutsHalves y leaves → HoldLeaves (key, e) rs leaves
cut-holds key e y rs (One z) h cut = absurd cut
cut-holds key e y rs (Behind first) h cut = absurd cut
cut-holds key e y rs (Halves front back) h cut = leaf-halves y front.items back.items (put_key key_of (key, e) rs) h cut.0 cut.1
