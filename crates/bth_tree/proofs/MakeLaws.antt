-- Records spelled into items, level by level.
use Rattle.std.proofs.Common.{◌≡◌, ◌≤◌, ◌<◌, ◌==◌, ◌+◌, ◌-◌, ◌*◌, ◌/◌, ◌%◌, ◌^◌, if◌then◌else◌, inl, inr, ℕ, zero, suc, true, List, [], ◌∷◌, ◌++◌, length, take, drop, min, Option, Some, None, refl, sym, ap, ◌∙◌, append_assoc, length-append, mul-suc, subst, add_comm, get_or, length-take, arith}
use Rattle.std.proofs.lemmas.List.{append-nil, drop_at, drop_more, length_push, take_at, take-append-drop}
use Rattle.std.proofs.lemmas.Bool.{and_from, cases_Bool, cases_eq, cases_lt, eq-eqb, lt-leb}
use Rattle.std.proofs.Math.Nat.{add-div_right, div-add-mod, div-eq_of_lt, mod-lt, mul-le-mul_left, mul-zero}
use Rattle.byteorder.proofs.Bytes.{take-bytes_low_first}
use Rattle.std.specs.Option.{option_and_then}
use Rattle.byteorder.specs.Endian.{little_bytes, little_number}
use Rattle.byteorder.specs.Numbers.{length-bytes_low_first, little_number-reads_back}
use Rattle.heap_on_node.specs.Packing.{item_in, spend}
use Rattle.heap_on_node.proofs.PackingLaws.{item_in-off}
use Rattle.pst_base.specs.Fields.{number_at}
use Rattle.pst_base.proofs.Numbers.{number_at-first}
use Rattle.bth_tree.specs.Making.{AddsPart, AreRecords, Keeps, MakesLevel, Parts, chunks, header_of, items_above, per_item, spelled}
use Rattle.bth_tree.specs.Records.{ordered, record_of, whole, within}
use Rattle.bth_tree.specs.Tree.{bth, children, end_of, filled, gather, is_header, leaf, root, tree, under}
use Rattle.bth_tree.proofs.OptionLaws.{bind-some, none-some, some-injective}
use Rattle.bth_tree.proofs.RecordLaws.{whole-none, whole-step}
use Rattle.bth_tree.proofs.ReadLaws.{filled-some}
use Rattle.bth_tree.proofs.TreeLaws.{tree-leaf, tree-none, tree-suc}
use Rattle.bth_tree.proofs.WholeLaws.{AreSome, bth-at, filled-is, first-within, gather-low, gather-parts, root-suc, root-zero, some-within, tree-some, under-none, under-root, within-append, within-first, within-lower}

pub length-spelled : (k e : ℕ) (rs : List (ℕ × List ℕ)) → AreRecords k e rs → length (spelled k rs) ≡ (k + e) * length rs
length-spelled k e [] h = omega arith
length-spelled k e (r ∷ rs) h =
    let step : (k + e) * suc (length rs) ≡ (k + e) * length rs + (k + e) = mul-suc (k + e) (length rs) in
    let rest = length-spelled k e rs h.2 in
    length-append (little_bytes k r.0) (r.1 ++ spelled k rs) ∙ omega (arith, length-append r.1 (spelled k rs), length-bytes_low_first 0 k r.0, h.1, rest, step)

whole-spelled : (k e : ℕ) (rs : List (ℕ × List ℕ)) → 0 < k → AreRecords k e rs → whole k e (spelled k rs) ≡ Some rs
whole-spelled k e [] low h = whole-none k e low
whole-spelled k e (r ∷ rs) low h =
    let key : length (little_bytes k r.0) ≡ k = length-bytes_low_first 0 k r.0 in
    let head : length (little_bytes k r.0 ++ r.1) ≡ k + e = omega (arith, length-append (little_bytes k r.0) r.1, key, h.1) in
    let joined : little_bytes k r.0 ++ (r.1 ++ spelled k rs) ≡ (little_bytes k r.0 ++ r.1) ++ spelled k rs = sym (append_assoc (little_bytes k r.0) r.1 (spelled k rs)) in
    let front : take (k + e) (little_bytes k r.0 ++ (r.1 ++ spelled k rs)) ≡ little_bytes k r.0 ++ r.1 = ap (take (k + e)) joined ∙ take_at (little_bytes k r.0 ++ r.1) (spelled k rs) (k + e) head in
    let back : drop (k + e) (little_bytes k r.0 ++ (r.1 ++ spelled k rs)) ≡ spelled k rs = ap (drop (k + e)) joined ∙ drop_at (little_bytes k r.0 ++ r.1) (spelled k rs) (k + e) head in
    let room : k + e ≤ length (little_bytes k r.0 ++ (r.1 ++ spelled k rs)) = omega (arith, ap length joined, length-append (little_bytes k r.0 ++ r.1) (spelled k rs), head) in
    let number : little_number k (little_bytes k r.0 ++ r.1) ≡ r.0 = little_number-reads_back k r.0 r.1 h.0 in
    let entry : drop k (little_bytes k r.0 ++ r.1) ≡ r.1 = drop_at (little_bytes k r.0) r.1 k key in
    let record_is : record_of k (take (k + e) (little_bytes k r.0 ++ (r.1 ++ spelled k rs))) ≡ r =
    ap (record_of k) front ∙ ap (λ (n : ℕ). (n, drop k (little_bytes k r.0 ++ r.1))) number ∙ ap (λ (y : List ℕ). (r.0, y)) entry in
    whole-step k e (little_bytes k r.0 ++ (r.1 ++ spelled k rs)) low room
    ∙ ap (λ (o : Option (List (ℕ × List ℕ))). option_and_then (λ (ws : List (ℕ × List ℕ)). Some (record_of k (take (k + e) (little_bytes k r.0 ++ (r.1 ++ spelled k rs))) ∷ ws)) o)
    (ap (whole k e) back ∙ whole-spelled k e rs low h.2)
    ∙ ap (λ (s : ℕ × List ℕ). Some (s ∷ rs)) record_is

ordered-spelled : (k e low high : ℕ) (rs : List (ℕ × List ℕ)) → 0 < k → AreRecords k e rs → within low high rs ≡ true → ordered k e low high (spelled k rs) ≡ Some rs
unfolding ordered
ordered-spelled k e low high rs pos h t = rw (whole-spelled k e rs pos h, t) refl

pub AreRecords-split : (k e : ℕ) (xs ys : List (ℕ × List ℕ)) → AreRecords k e (xs ++ ys) → AreRecords k e xs × AreRecords k e ys
AreRecords-split k e [] ys h = (tt, h)
AreRecords-split k e (x ∷ xs) ys h = let p = AreRecords-split k e xs ys h.2 in ((h.0, h.1, p.0), p.1)

pub AreRecords-push : (k e : ℕ) (xs : List (ℕ × List ℕ)) (y : ℕ × List ℕ) → AreRecords k e xs → y.0 < 256 ^ k → length y.1 ≡ e → AreRecords k e (xs ++ y ∷ [])
AreRecords-push k e [] y h a b = (a, b, tt)
AreRecords-push k e (x ∷ xs) y h a b = (h.0, h.1, AreRecords-push k e xs y h.2 a b)

-- what stays found keeps the parts of a level
Parts-kept : (old new : ℕ → Option (List ℕ)) (k : ℕ) (ps recs : List (ℕ × List ℕ)) → Keeps old new → Parts old k ps recs → Parts new k ps recs
Parts-kept old new k [] recs keeps h = h
Parts-kept old new k (p ∷ ps) recs keeps h =
    (h.0, h.1, h.2, h.3, h.4, keeps (little_number 4 p.1) (spelled k h.0) h.5, Parts-kept old new k ps h.1 keeps h.6)

Parts-push : (get : ℕ → Option (List ℕ)) (k : ℕ) (ps recs part : List (ℕ × List ℕ)) (p : ℕ × List ℕ) → Parts get k ps recs → 0 < length part → p.0 ≡ end_of part
    → get (little_number 4 p.1) ≡ Some (spelled k part) → Parts get k (ps ++ p ∷ []) (recs ++ part)
Parts-push get k [] recs part p h some first here = (part, [], ap (λ (r : List (ℕ × List ℕ)). r ++ part) h ∙ sym (append-nil part), some, first, here, refl)
Parts-push get k (q ∷ ps) recs part p h some first here =
    (h.0, h.1 ++ part, ap (λ (r : List (ℕ × List ℕ)). r ++ part) h.2 ∙ append_assoc h.0 h.1 part, h.3, h.4, h.5, Parts-push get k ps h.1 part p h.6 some first here)

-- the bytes of some records, and of others behind them
length-spelled-append : (k : ℕ) (xs ys : List (ℕ × List ℕ)) → length (spelled k (xs ++ ys)) ≡ length (spelled k xs) + length (spelled k ys)
length-spelled-append k [] ys = omega arith
length-spelled-append k (x ∷ xs) ys =
    omega (
      arith,
      length-append (little_bytes k x.0) (x.1 ++ spelled k (xs ++ ys)),
      length-append x.1 (spelled k (xs ++ ys)),
      length-append (little_bytes k x.0) (x.1 ++ spelled k xs),
      length-append x.1 (spelled k xs),
      length-spelled-append k xs ys,
    )

-- pairs have at most 8 bytes each
pub length-pairs : (k : ℕ) (ps : List (ℕ × List ℕ)) → k ≤ 4 → AreRecords k 4 ps → length (spelled k ps) ≤ 8 * length ps
length-pairs k [] small are = omega arith
length-pairs k (p ∷ ps) small are =
    omega (arith, length-append (little_bytes k p.0) (p.1 ++ spelled k ps), length-append p.1 (spelled k ps), length-bytes_low_first 0 k p.0, are.1, length-pairs k ps small are.2)

-- one more item of a level
pub level-step : (old mid new : List (List (List ℕ))) (k e : ℕ) (done part ps : List (ℕ × List ℕ)) (p : ℕ × List ℕ) → MakesLevel old mid k done ps → AddsPart mid new k part p
    → 0 < length part → AreRecords k e part → MakesLevel old new k (done ++ part) (ps ++ p ∷ [])
level-step old mid new k e done part ps p m a some recs = record {
  kept = λ hid x h. a.kept hid x (m.kept hid x h);
  parts = Parts-push (item_in new) k ps done part p (Parts-kept (item_in mid) (item_in new) k ps done a.kept m.parts) some a.first a.here;
  pairs = AreRecords-push k 4 ps p m.pairs (first-fits k e part p.0 some recs a.first) a.size;
  blocks = omega (arith, m.blocks, a.blocks, length_push ps p);
  half = omega (arith, m.half, a.half, length_push ps p);
  spent = omega (arith, m.spent, a.spent, length_push ps p, length-spelled-append k done part);
}
  where
    first-fits : (k e : ℕ) (part : List (ℕ × List ℕ)) (n : ℕ) → 0 < length part → AreRecords k e part → n ≡ end_of part → n < 256 ^ k
    first-fits k e [] n some h is = absurd (omega arith)
    first-fits k e (r ∷ rs) n some h is = omega (arith, h.0, is)

pub along : (k e : ℕ) (xs ys : List (ℕ × List ℕ)) → xs ≡ ys → AreRecords k e xs → AreRecords k e ys
along k e xs ys same h = subst (λ (ws : List (ℕ × List ℕ)). AreRecords k e ws) same h

pub within-high : (low m high : ℕ) (rs : List (ℕ × List ℕ)) → within low m rs ≡ true → m ≤ high → within low high rs ≡ true
within-high low m high [] h le = refl
within-high low m high (r ∷ rs) h le =
    let f = first-within low m r rs h in
    within-first low high r rs f.0 (omega (arith, f.1)) (within-high (suc r.0) m high rs f.2 le)

end-le : (rest : List (ℕ × List ℕ)) → within 0 (2 ^ 32) rest ≡ true → end_of rest ≤ 2 ^ 32
end-le [] h = omega arith
end-le (r ∷ rs) h = let f = first-within 0 (2 ^ 32) r rs h in omega (arith, f.1)

children-spelled : (child : ℕ → Option (List (ℕ × List ℕ))) (k : ℕ) (part : List (ℕ × List ℕ)) → 0 < k → AreRecords k 4 part → children child k (spelled k part) ≡ gather child part
unfolding children
children-spelled child k part low are = rw (whole-spelled k 4 part low are) refl

-- records before others end below them
below-rest : (low : ℕ) (part rest : List (ℕ × List ℕ)) → within low (2 ^ 32) (part ++ rest) ≡ true → within low (end_of rest) part ≡ true
below-rest low [] rest h = refl
below-rest low (r ∷ part) rest h =
    let f = first-within low (2 ^ 32) r (part ++ rest) h in
    within-first low (end_of rest) r part f.0 (below (suc r.0) part rest f.2 f.1) (below-rest (suc r.0) part rest f.2)
  where
    below : (low : ℕ) (part rest : List (ℕ × List ℕ)) → within low (2 ^ 32) (part ++ rest) ≡ true → low ≤ 2 ^ 32 → low ≤ end_of rest
    below low [] [] h le = le
    below low [] (q ∷ qs) h le = (first-within low (2 ^ 32) q qs h).0
    below low (p ∷ ps) rest h le = let f = first-within low (2 ^ 32) p (ps ++ rest) h in omega (arith, f.0, below (suc p.0) ps rest f.2 f.1)

rest-within : (low : ℕ) (part rest : List (ℕ × List ℕ)) → within low (2 ^ 32) (part ++ rest) ≡ true → within low (2 ^ 32) rest ≡ true
rest-within low [] rest h = h
rest-within low (r ∷ part) rest h =
    let f = first-within low (2 ^ 32) r (part ++ rest) h in
    within-lower (suc r.0) low (2 ^ 32) rest (omega (arith, f.0)) (rest-within (suc r.0) part rest f.2)

from-first : (low high : ℕ) (part : List (ℕ × List ℕ)) → within low high part ≡ true → 0 < length part → within (end_of part) high part ≡ true
from-first low high [] h some = absurd (omega arith)
from-first low high (r ∷ part) h some = let f = first-within low high r part h in within-first r.0 high r part (omega arith) f.1 f.2

-- a level's first key is that of its records
Parts-end : (get : ℕ → Option (List ℕ)) (k : ℕ) (ps recs : List (ℕ × List ℕ)) → Parts get k ps recs → end_of ps ≡ end_of recs
Parts-end get k [] recs h = ap end_of (sym h)
Parts-end get k (p ∷ ps) recs h = h.4 ∙ end-append h.0 h.1 h.3 ∙ ap end_of (sym h.2)
  where
    end-append : (xs ys : List (ℕ × List ℕ)) → 0 < length xs → end_of xs ≡ end_of (xs ++ ys)
    end-append [] ys h = absurd (omega arith)
    end-append (x ∷ xs) ys h = refl

gather-cons : (child : ℕ → Option (List (ℕ × List ℕ))) (p : ℕ × List ℕ) (ps first others : List (ℕ × List ℕ)) → child (little_number 4 p.1) ≡ Some first → gather child ps ≡ Some others
    → within p.0 (end_of ps) first ≡ true → gather child (p ∷ ps) ≡ Some (first ++ others)
gather-cons child p ps first others a b t = rw (a, b, t) refl

tree-of_leaf : (get : ℕ → Option (List ℕ)) (k e hid : ℕ) (part : List (ℕ × List ℕ)) → get hid ≡ Some (spelled k part) → 0 < k → AreRecords k e part → within 0 (2 ^ 32) part ≡ true → 0 < length part
    → tree get k e 0 hid ≡ Some part
tree-of_leaf get k e hid part here low recs t some =
    tree-leaf get k e 0 hid (spelled k part) here refl ∙ ap (option_and_then filled) (ordered-spelled k e 0 (2 ^ 32) part low recs t) ∙ filled-some part some

-- a level of leaves reads as its records
pub cover-leaves : (get : ℕ → Option (List ℕ)) (k e : ℕ) (ps recs : List (ℕ × List ℕ)) → 0 < k → Parts get k ps recs → AreRecords k e recs → within 0 (2 ^ 32) recs ≡ true
    → gather (tree get k e 0) ps ≡ Some recs
cover-leaves get k e [] recs low h are t = ap Some (sym h)
cover-leaves get k e (p ∷ ps) recs low h are t =
    let are2 = AreRecords-split k e h.0 h.1 (along k e recs (h.0 ++ h.1) h.2 are) in
    let t2 : within 0 (2 ^ 32) (h.0 ++ h.1) ≡ true = ap (within 0 (2 ^ 32)) (sym h.2) ∙ t in
    let below = below-rest 0 h.0 h.1 t2 in
    let part_within : within 0 (2 ^ 32) h.0 ≡ true = within-high 0 (end_of h.1) (2 ^ 32) h.0 below (end-le h.1 (rest-within 0 h.0 h.1 t2)) in
    gather-cons (tree get k e 0) p ps h.0 h.1 (tree-of_leaf get k e (little_number 4 p.1) h.0 h.5 low are2.0 part_within h.3)
    (cover-leaves get k e ps h.1 low h.6 are2.1 (rest-within 0 h.0 h.1 t2))
    (ap (λ (n : ℕ). within n (end_of ps) h.0) h.4 ∙ ap (λ (n : ℕ). within (end_of h.0) n h.0) (Parts-end get k ps h.1 h.6) ∙ from-first 0 (end_of h.1) h.0 below h.3)
    ∙ ap Some (sym h.2)

gather-some : (child : ℕ → Option (List (ℕ × List ℕ))) → AreSome child → (xs rs : List (ℕ × List ℕ)) → gather child xs ≡ Some rs → 0 < length xs → 0 < length rs
gather-some child some [] rs h n = absurd (omega arith)
gather-some child some (x ∷ xs) rs h n =
    let g = gather-parts child x xs rs h in
    omega (arith, some (little_number 4 x.1) g.0 g.2, length-append g.0 g.1, ap length g.5)

-- the children of some pairs, and those of the others
gather-split : (child : ℕ → Option (List (ℕ × List ℕ))) → AreSome child → (xs ys rs : List (ℕ × List ℕ)) → gather child (xs ++ ys) ≡ Some rs → 0 < length xs
    → (fs : List (ℕ × List ℕ)) × (bs : List (ℕ × List ℕ)) × (gather child xs ≡ Some fs) × (gather child ys ≡ Some bs) × (rs ≡ fs ++ bs) × (within (end_of xs) (end_of ys) fs ≡ true)
gather-split child some [] ys rs h n = absurd (omega arith)
gather-split child some (x ∷ []) ys rs h n =
    let g = gather-parts child x ys rs h in
    let low = gather-low child some ys g.1 g.3 in
    (g.0, g.1, gather-cons child x [] g.0 [] g.2 refl (within-high x.0 (end_of ys) (2 ^ 32) g.0 g.4 low) ∙ ap Some (append-nil g.0), g.3, sym g.5, g.4)
gather-split child some (x ∷ (y ∷ xs)) ys rs h n =
    let g = gather-parts child x (y ∷ (xs ++ ys)) rs h in
    let s = gather-split child some (y ∷ xs) ys g.1 g.3 (omega arith) in
    let first = some-within x.0 y.0 g.0 (some (little_number 4 x.1) g.0 g.2) g.4 in
    let next = some-within y.0 (end_of ys) s.0 (gather-some child some (y ∷ xs) s.0 s.2 (omega arith)) s.5 in (
      g.0 ++ s.0,
      s.1,
      gather-cons child x (y ∷ xs) g.0 s.0 g.2 s.2 g.4,
      s.3,
      sym g.5 ∙ ap (λ (w : List (ℕ × List ℕ)). g.0 ++ w) s.4 ∙ sym (append_assoc g.0 s.0 s.1),
      within-append x.0 y.0 (end_of ys) g.0 s.0 (omega (arith, first)) (omega (arith, next)) g.4 s.5,
    )

tree-of_pairs : (get : ℕ → Option (List ℕ)) (k e n hid : ℕ) (part rs : List (ℕ × List ℕ)) → get hid ≡ Some (spelled k part) → 0 < k → AreRecords k 4 part → 0 < length part
    → gather (tree get k e n) part ≡ Some rs → tree get k e (suc n) hid ≡ Some rs
tree-of_pairs get k e n hid part rs here low are some h =
    tree-suc get k e n hid (spelled k part) here
    ∙ ap (option_and_then filled) (children-spelled (tree get k e n) k part low are ∙ h)
    ∙ filled-some rs (gather-some (tree get k e n) (tree-some get k e n) part rs h some)

-- a level of pairs reads as the level below
pub cover-pairs : (get : ℕ → Option (List ℕ)) (k e n : ℕ) (qs ps rs : List (ℕ × List ℕ)) → 0 < k → Parts get k qs ps → AreRecords k 4 ps → gather (tree get k e n) ps ≡ Some rs
    → gather (tree get k e (suc n)) qs ≡ Some rs
cover-pairs get k e n [] ps rs low h are g = ap (gather (tree get k e n)) (sym h) ∙ g
cover-pairs get k e n (q ∷ qs) ps rs low h are g =
    let are2 = AreRecords-split k 4 h.0 h.1 (along k 4 ps (h.0 ++ h.1) h.2 are) in
    let s = gather-split (tree get k e n) (tree-some get k e n) h.0 h.1 rs (ap (gather (tree get k e n)) (sym h.2) ∙ g) h.3 in
    gather-cons (tree get k e (suc n)) q qs s.0 s.1 (tree-of_pairs get k e n (little_number 4 q.1) h.0 s.0 h.5 low are2.0 h.3 s.2)
    (cover-pairs get k e n qs h.1 s.1 low h.6 are2.1 s.3)
    (ap (λ (m : ℕ). within m (end_of qs) s.0) h.4 ∙ ap (λ (m : ℕ). within (end_of h.0) m s.0) (Parts-end get k qs h.1 h.6) ∙ s.5)
    ∙ ap Some (sym s.4)

-- what stays found keeps all that is read
gather-kept : (old new : ℕ → Option (List (ℕ × List ℕ))) (ps rs : List (ℕ × List ℕ)) → ((hid : ℕ) (ws : List (ℕ × List ℕ)) → old hid ≡ Some ws → new hid ≡ Some ws)
    → gather old ps ≡ Some rs → gather new ps ≡ Some rs
gather-kept old new [] rs keeps h = h
gather-kept old new (p ∷ ps) rs keeps h =
    let g = gather-parts old p ps rs h in
    gather-cons new p ps g.0 g.1 (keeps (little_number 4 p.1) g.0 g.2) (gather-kept old new ps g.1 keeps g.3) g.4 ∙ ap Some g.5

leaf-kept : (old new : ℕ → Option (List ℕ)) (k e hid : ℕ) (rs : List (ℕ × List ℕ)) → Keeps old new → leaf old k e hid ≡ Some rs → leaf new k e hid ≡ Some rs
unfolding leaf
leaf-kept old new k e hid rs keeps h =
    let b = bind-some (ordered k e 0 (2 ^ 32)) (old hid) rs h in
    ap (option_and_then (ordered k e 0 (2 ^ 32))) (keeps hid b.0 b.1) ∙ b.2

pub tree-kept : (old new : ℕ → Option (List ℕ)) (k e n hid : ℕ) (rs : List (ℕ × List ℕ)) → Keeps old new → tree old k e n hid ≡ Some rs → tree new k e n hid ≡ Some rs
unfolding tree children
tree-kept old new k e zero hid rs keeps h =
    let b = bind-some filled (leaf old k e hid) rs h in
    ap (option_and_then filled) (leaf-kept old new k e hid b.0 keeps b.1) ∙ b.2
tree-kept old new k e (suc n) hid rs keeps h =
    let a = bind-some (λ (x : List ℕ). option_and_then filled (option_and_then (gather (tree old k e n)) (whole k 4 x))) (old hid) rs h in
    let b = bind-some filled (option_and_then (gather (tree old k e n)) (whole k 4 a.0)) rs a.2 in
    let c = bind-some (gather (tree old k e n)) (whole k 4 a.0) b.0 b.1 in
    ap (option_and_then (λ (x : List ℕ). option_and_then filled (option_and_then (gather (tree new k e n)) (whole k 4 x)))) (keeps hid a.0 a.1)
    ∙ ap (λ (o : Option (List (ℕ × List ℕ))). option_and_then filled (option_and_then (gather (tree new k e n)) o)) c.1
    ∙ ap (option_and_then filled) (gather-kept (tree old k e n) (tree new k e n) c.0 b.0 (λ at ws. tree-kept old new k e n at ws keeps) c.2) ∙ b.2

pub level-kept : (old new : ℕ → Option (List ℕ)) (k e n : ℕ) (ps rs : List (ℕ × List ℕ)) → Keeps old new → gather (tree old k e n) ps ≡ Some rs → gather (tree new k e n) ps ≡ Some rs
level-kept old new k e n ps rs keeps h = gather-kept (tree old k e n) (tree new k e n) ps rs (λ hid ws. tree-kept old new k e n hid ws keeps) h

-- one more record's bytes
pub spell-step : (k i : ℕ) (recs : List (ℕ × List ℕ)) (r : ℕ × List ℕ) (out key entry : List ℕ) → k ≤ 4 → i < length recs → r ≡ get_or recs i r → key ≡ little_bytes 4 r.0 → entry ≡ r.1
    → ((out ++ take k key) ++ entry) ++ spelled k (drop (i + 1) recs) ≡ out ++ spelled k (drop i recs)
spell-step k i recs r out key entry small within is key_is entry_is =
    let first : take k key ≡ little_bytes k r.0 = ap (take k) key_is ∙ take-bytes_low_first 0 4 k r.0 small in
    let rest : drop i recs ≡ r ∷ drop (i + 1) recs = drop_more recs i r within ∙ ap (λ (q : ℕ × List ℕ). q ∷ drop (i + 1) recs) (sym is) in
    ap (λ (b : List ℕ). ((out ++ b) ++ entry) ++ spelled k (drop (i + 1) recs)) first
    ∙ ap (λ (b : List ℕ). ((out ++ little_bytes k r.0) ++ b) ++ spelled k (drop (i + 1) recs)) entry_is
    ∙ append_assoc (out ++ little_bytes k r.0) r.1 (spelled k (drop (i + 1) recs))
    ∙ append_assoc out (little_bytes k r.0) (r.1 ++ spelled k (drop (i + 1) recs))
    ∙ ap (λ (ws : List (ℕ × List ℕ)). out ++ spelled k ws) (sym rest)

-- an item of so many records is no longer than it may be
pub part-size : (k e m : ℕ) (rest : List (ℕ × List ℕ)) → AreRecords k e rest → m ≤ per_item (k + e) → length (spelled k (take m rest)) ≤ 3580
part-size k e m rest are le =
    let two = AreRecords-split k e (take m rest) (drop m rest) (along k e rest (take m rest ++ drop m rest) (sym (take-append-drop m rest)) are) in
    let count : length (take m rest) ≤ per_item (k + e) = omega (arith, length-take m rest) in
    let most = mul-le-mul_left (k + e) count in
    let whole = div-add-mod 3580 (k + e) in
    omega (arith, length-spelled k e (take m rest) two.0, most, whole)

pub per-pos : (s : ℕ) → 0 < s → s < 3580 → 0 < per_item s
per-pos s low high = elim (cases_eq (3580 / s) 0) [
  | inr n ↦ pos (3580 / s) n
  | inl z ↦
      let whole : s * (3580 / s) + 3580 % s ≡ 3580 = div-add-mod 3580 s in
      let none : s * (3580 / s) ≡ 0 = ap (λ (q : ℕ). s * q) z ∙ mul-zero s in
      let rem : 3580 % s < s = mod-lt 3580 low in
      absurd (omega arith)
]
  where
    pos : (n : ℕ) → (n ≡ 0 → ⊥) → 0 < n
    pos zero h = absurd (h refl)
    pos (suc n) h = omega arith

-- a full item, or the last
pub chunks-step : (per n : ℕ) → 0 < per → 0 < n → chunks per n ≡ 1 + chunks per (n - min per n)
chunks-step per n low some = elim (cases_lt per n) [
  | inl more ↦
      let m : min per n ≡ per = omega arith in
      let whole : n + (per - 1) ≡ n - per + (per - 1) + per = omega arith in
      ap (λ (x : ℕ). x / per) whole ∙ add-div_right (n - per + (per - 1)) low ∙ ap (λ (x : ℕ). chunks per (n - x) + 1) (sym m) ∙ add_comm (chunks per (n - min per n)) 1
  | inr all ↦
      let m : n - min per n ≡ 0 = omega arith in
      let whole : n + (per - 1) ≡ n - 1 + per = omega arith in
      let last : (n - 1) / per ≡ 0 = div-eq_of_lt (omega arith) in
      let none : chunks per 0 ≡ 0 = div-eq_of_lt (omega arith) in
      ap (λ (x : ℕ). x / per) whole ∙ add-div_right (n - 1) low ∙ ap (λ (x : ℕ). x + 1) last ∙ ap (λ (x : ℕ). 1 + x) (sym (ap (chunks per) m ∙ none))
]

pub above-step : (per r m : ℕ) → 1 < m → 0 < r → items_above per r m ≡ chunks per m + items_above per (r - 1) (chunks per m)
above-step per zero m more low = absurd (omega arith)
above-step per (suc r) m more low =
    let e : suc r - 1 ≡ r = omega arith in
    rw (lt-leb m 1 more, e) refl

pub chunks-pos : (per n : ℕ) → 0 < per → 0 < n → 0 < chunks per n
chunks-pos per n a b = omega (arith, chunks-step per n a b)

-- what a level of pairs takes above some items, for each key length
pub record Fewer (k : ℕ) : Type 0 where
  pub pos : 0 < per_item (k + 4)
  pub less : (m : ℕ) → 1 < m → chunks (per_item (k + 4)) m < m
  pub second : (m : ℕ) → m ≤ 65535 → chunks (per_item (k + 4)) m ≤ 147
  pub third : (m : ℕ) → m ≤ 147 → chunks (per_item (k + 4)) m ≤ 1
  pub half : (m : ℕ) → 1 < m → 2 * chunks (per_item (k + 4)) m ≤ m

pub fewer : (k : ℕ) → 1 ≤ k → k ≤ 4 → Fewer k
fewer zero a b = absurd (omega arith)
fewer (suc zero) a b = record { pos = omega arith; less = λ m h. omega arith; second = λ m h. omega arith; third = λ m h. omega arith; half = λ m h. omega arith }
fewer (suc (suc zero)) a b = record { pos = omega arith; less = λ m h. omega arith; second = λ m h. omega arith; third = λ m h. omega arith; half = λ m h. omega arith }
fewer (suc (suc (suc zero))) a b = record { pos = omega arith; less = λ m h. omega arith; second = λ m h. omega arith; third = λ m h. omega arith; half = λ m h. omega arith }
fewer (suc (suc (suc (suc zero)))) a b = record { pos = omega arith; less = λ m h. omega arith; second = λ m h. omega arith; third = λ m h. omega arith; half = λ m h. omega arith }
fewer (suc (suc (suc (suc (suc k))))) a b = absurd (omega arith)

-- one item above all others
pub one-pair : (child : ℕ → Option (List (ℕ × List ℕ))) (ps rs : List (ℕ × List ℕ)) (d : ℕ × List ℕ) → length ps ≡ 1 → gather child ps ≡ Some rs → child (little_number 4 (get_or ps 0 d).1) ≡ Some rs
one-pair child [] rs d n h = absurd (omega arith)
one-pair child (p ∷ []) rs d n h =
    let g = gather-parts child p [] rs h in
    g.2 ∙ ap Some (sym (append-nil g.0) ∙ ap (λ (ws : List (ℕ × List ℕ)). g.0 ++ ws) (some-injective [] g.1 g.3) ∙ g.5)
one-pair child (p ∷ (q ∷ ps)) rs d n h = absurd (omega arith)

pub root-from : (get : ℕ → Option (List ℕ)) (k e n hid : ℕ) (rs : List (ℕ × List ℕ)) → tree get k e n hid ≡ Some rs → root get k e n hid ≡ Some rs
unfolding tree
root-from get k e zero hid rs h =
    let b = bind-some filled (leaf get k e hid) rs h in
    root-zero get k e hid ∙ b.1 ∙ ap Some (filled-is b.0 rs b.2).0
root-from get k e (suc n) hid rs h = root-suc get k e n hid ∙ h

-- nothing stands under the heap id 0
pub item_in-zero : (G : List (List (List ℕ))) → item_in G 0 ≡ None
item_in-zero G = item_in-off G 0 refl

pub root-nonzero : (G : List (List (List ℕ))) (k e n hid : ℕ) (rs : List (ℕ × List ℕ)) → tree (item_in G) k e n hid ≡ Some rs → hid ≡ 0 → ⊥
root-nonzero G k e n hid rs h z =
    none-some rs (sym (tree-none (item_in G) k e n 0 (item_in-zero G)) ∙ ap (λ (i : ℕ). tree (item_in G) k e n i) (sym z) ∙ h)

pub root-kept : (old new : ℕ → Option (List ℕ)) (k e n hid : ℕ) (rs : List (ℕ × List ℕ)) → Keeps old new → root old k e n hid ≡ Some rs → root new k e n hid ≡ Some rs
root-kept old new k e zero hid rs keeps h = root-zero new k e hid ∙ leaf-kept old new k e hid rs keeps (sym (root-zero old k e hid) ∙ h)
root-kept old new k e (suc n) hid rs keeps h = root-suc new k e n hid ∙ tree-kept old new k e (suc n) hid rs keeps (sym (root-suc old k e n hid) ∙ h)

-- a header begins its tree
header-is : (k e level hid : ℕ) → is_header k e (header_of k e level hid) ≡ true
unfolding number_at
header-is k e level hid =
    let a : k + 256 * 0 ≡ k = omega arith in
    let b : e + 256 * 0 ≡ e = omega arith in
    and_from (k + 256 * 0 == k) (e + 256 * 0 == e) (eq-eqb (k + 256 * 0) k a) (eq-eqb (e + 256 * 0) e b)

pub header-reads : (get : ℕ → Option (List ℕ)) (at k e level hid : ℕ) (rs : List (ℕ × List ℕ)) → hid < 2 ^ 32 → get at ≡ Some (header_of k e level hid)
    → under get k e (header_of k e level hid) ≡ Some rs → bth get at k e ≡ Some rs
header-reads get at k e level hid rs fit here h = bth-at get at k e (header_of k e level hid) here (header-is k e level hid) ∙ h

header-level : (k e level hid : ℕ) → number_at 1 3 (header_of k e level hid) ≡ level
unfolding number_at
header-level k e level hid = omega arith

header-behind : (k e level hid : ℕ) → number_at 4 4 (header_of k e level hid) ≡ number_at 4 0 (little_bytes 4 hid ++ [])
unfolding number_at
header-behind k e level hid = refl

header-root : (k e level hid : ℕ) → hid < 2 ^ 32 → number_at 4 4 (header_of k e level hid) ≡ hid
header-root k e level hid fit = header-behind k e level hid ∙ number_at-first 4 hid [] fit

-- a tree's header over its levels, or over nothing
pub header-over : (get : ℕ → Option (List ℕ)) (at k e level hid : ℕ) (rs : List (ℕ × List ℕ)) → hid < 2 ^ 32 → (hid ≡ 0 → ⊥) → get at ≡ Some (header_of k e level hid)
    → root get k e level hid ≡ Some rs → bth get at k e ≡ Some rs
header-over get at k e level hid rs fit some here h =
    let r = header-root k e level hid fit in
    header-reads get at k e level hid rs fit here
    (under-root get k e (header_of k e level hid) (λ z. some (sym r ∙ z))
    ∙ ap (λ (n : ℕ). root get k e n (number_at 4 4 (header_of k e level hid))) (header-level k e level hid) ∙ ap (root get k e level) r ∙ h)

pub header-none : (get : ℕ → Option (List ℕ)) (at k e : ℕ) → get at ≡ Some (header_of k e 0 0) → bth get at k e ≡ Some []
header-none get at k e here =
    header-reads get at k e 0 0 [] (omega arith) here (under-none get k e (header_of k e 0 0) (header-root k e 0 0 (omega arith)))

-- how much room is left for the levels above
pub room-first : (h0 h1 per ch ps : ℕ) → h1 ≤ h0 + ps → ps ≡ ch → h1 + items_above per 2 ps + 1 ≤ h0 + (1 + (ch + items_above per 2 ch))
room-first h0 h1 per ch ps a b = sum h0 h1 ch ps (items_above per 2 ps) (items_above per 2 ch) a b (ap (items_above per 2) b)
  where
    sum : (h0 h1 ch ps x y : ℕ) → h1 ≤ h0 + ps → ps ≡ ch → x ≡ y → h1 + x + 1 ≤ h0 + (1 + (ch + y))
    sum h0 h1 ch ps x y a b c = omega arith

pub few-first : (h0 ch ps x : ℕ) → h0 + (1 + (ch + x)) < 65536 → ps ≡ ch → ps ≤ 65535
few-first h0 ch ps x a b = omega arith

pub room-step : (h per level m bound : ℕ) → level ≤ 2 → (level ≡ 2 → m ≤ 1) → 1 < m → h + items_above per (2 - level) m + 1 ≤ bound
    → (level < 2) × (h + (chunks per m + items_above per (2 - (level + 1)) (chunks per m)) + 1 ≤ bound)
room-step h per level m bound high third more room =
    let low : level < 2 = elim (cases_eq level 2) [ inl e ↦ absurd (omega (arith, third e)) | inr n ↦ below level high n ] in
    let next : 2 - level - 1 ≡ 2 - (level + 1) = omega arith in
    let step = above-step per (2 - level) m more (omega arith) ∙ ap (λ (r : ℕ). chunks per m + items_above per r (chunks per m)) next in
    (low, sum h (items_above per (2 - level) m) (chunks per m + items_above per (2 - (level + 1)) (chunks per m)) bound step room)
  where
    below : (level : ℕ) → level ≤ 2 → (level ≡ 2 → ⊥) → level < 2
    below level a n = grind arith

    sum : (h x y bound : ℕ) → x ≡ y → h + x + 1 ≤ bound → h + y + 1 ≤ bound
    sum h x y bound e a = omega arith

pub room-next : (h new per r ch ps bound : ℕ) → new ≤ h + ps → ps ≡ ch → h + (ch + items_above per r ch) + 1 ≤ bound → new + items_above per r ps + 1 ≤ bound
room-next h new per r ch ps bound a b c = sum h new ch ps (items_above per r ps) (items_above per r ch) bound a b (ap (items_above per r) b) c
  where
    sum : (h new ch ps x y bound : ℕ) → new ≤ h + ps → ps ≡ ch → x ≡ y → h + (ch + y) + 1 ≤ bound → new + x + 1 ≤ bound
    sum h new ch ps x y bound a b c d = omega arith

pub room-level : (h ch x bound : ℕ) → h + (ch + x) + 1 ≤ bound → bound < 65536 → h + ch ≤ 65536
room-level h ch x bound a b = omega arith

pub room-last : (h x bound : ℕ) → h + x + 1 ≤ bound → h + 1 ≤ bound
room-last h x bound a = omega arith

-- what a tree counts for, level by level: each item above takes the place of two below
pub spent-first : (s0 s1 len q m : ℕ) → s1 ≤ s0 + (2 * len + 4 * m) → m ≡ q → s1 + 44 * m ≤ s0 + (2 * len + 48 * q)
spent-first s0 s1 len q m a b = omega arith

pub spent-next : (s1 s2 m n bound len : ℕ) → s1 + 44 * m ≤ bound → s2 ≤ s1 + (2 * len + 4 * n) → len ≤ 8 * m → 2 * n ≤ m → s2 + 44 * n ≤ bound
spent-next s1 s2 m n bound len a b c d = omega arith

pub spent-last : (s m s0 len q : ℕ) → m ≡ 1 → s + 44 * m ≤ s0 + (2 * len + 48 * q) → s + 16 ≤ s0 + (2 * len + 48 * q + 16)
spent-last s m s0 len q a b = omega arith

-- a header counts for 16
pub header-spend : (k e level hid : ℕ) → spend (header_of k e level hid) ≡ 16
header-spend k e level hid = omega (arith, length-bytes_low_first 0 4 hid)

-- one more record with the next key
pub within-push : (low n : ℕ) (rs : List (ℕ × List ℕ)) (x : List ℕ) → low ≤ n → within low n rs ≡ true → within low (n + 1) (rs ++ (n, x) ∷ []) ≡ true
within-push low n rs x le h =
    within-append low n (n + 1) rs ((n, x) ∷ []) le (omega arith) h (within-first n (n + 1) (n, x) [] (omega arith) (omega arith) refl)

under-kept : (old new : ℕ → Option (List ℕ)) (k e : ℕ) (x : List ℕ) (rs : List (ℕ × List ℕ)) → Keeps old new → under old k e x ≡ Some rs → under new k e x ≡ Some rs
under-kept old new k e x rs keeps h = elim (cases_eq (number_at 4 4 x) 0) [
  | inl z ↦ under-none new k e x z ∙ sym (under-none old k e x z) ∙ h
  | inr n ↦ under-root new k e x n ∙ root-kept old new k e (number_at 1 3 x) (number_at 4 4 x) rs keeps (sym (under-root old k e x n) ∙ h)
]

-- what stays found keeps a tree
pub bth-kept : (old new : ℕ → Option (List ℕ)) (hid k e : ℕ) (rs : List (ℕ × List ℕ)) → Keeps old new → bth old hid k e ≡ Some rs → bth new hid k e ≡ Some rs
unfolding bth
bth-kept old new hid k e rs keeps h =
    let a = bind-some (λ (x : List ℕ). if is_header k e x then under old k e x else None) (old hid) rs h in
    elim (cases_Bool (is_header k e a.0)) [
      | inl t ↦ ap (option_and_then (λ (x : List ℕ). if is_header k e x then under new k e x else None)) (keeps hid a.0 a.1) ∙ rw t (under-kept old new k e a.0 rs keeps (rw t at a.2))
      | inr f ↦ absurd (none-some rs (rw f at a.2))
    ]
