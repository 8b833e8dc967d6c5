-- Contents that have the form of nodes.
use Rattle.std.proofs.Common.{◌≡◌, ◌⊎◌, inl, inr, ℕ, ◌+◌, ◌-◌, ◌*◌, ◌<◌, ◌≤◌, get_or, List, [], ◌∷◌, ◌++◌, length, take, sym, ap, subst, ◌∙◌, arith}
use Rattle.std.specs.List.{All}
use Rattle.std.proofs.lemmas.Bool.{cases_lt}
use Rattle.std.proofs.lemmas.List.{take_all, take_more}
use Rattle.pst_base.specs.declared.subs.Sub.{Sub}
use Rattle.pst_base.specs.Flat.{Flat}
use Rattle.pst_base.specs.Subs.{flattened}
use Rattle.data_tree.specs.Plan.{IsContent, bytes_in}
use Rattle.data_tree.proofs.PieceLaws.{Each, all_from-each, each-append}
use Rattle.subnode_tree.specs.Plan.{IsForm}
use Rattle.subnode_tree.proofs.MadeLaws.{Made, form-made, made-none, made-push, made-shallow}

abbrev pub Short : List ℕ → Type 0
Short b = length b ≤ 8176

bytes-sum : (xs ys : List (List ℕ)) → bytes_in (xs ++ ys) ≡ bytes_in xs + bytes_in ys
bytes-sum [] ys = omega arith
bytes-sum (x ∷ xs) ys = let rest = bytes-sum xs ys in omega (arith, rest)

-- the first blocks of some data
pub record Measured (blocks : List (List ℕ)) (i total : ℕ) : Type 0 where
  pub is : total ≡ bytes_in (take i blocks)
  pub small : Each Short (take i blocks)
  pub room : total ≤ 8176 * i

pub measured-next : (blocks : List (List ℕ)) (i total n : ℕ) (b : List ℕ) → i < length blocks → b ≡ get_or blocks i b → n ≡ length b → length b ≤ 8176 → Measured blocks i total → Measured blocks (i + 1) (total + n)
measured-next blocks i total n b h is size few so_far =
    let more : take (i + 1) blocks ≡ take i blocks ++ b ∷ [] = take_more blocks i b h ∙ ap (λ (l : List ℕ). take i blocks ++ l ∷ []) (sym is) in
    let sum = bytes-sum (take i blocks) (b ∷ []) in
    let whole = ap bytes_in more in
    let before = so_far.is in
    let room = so_far.room in
    record {
      is = omega (arith, sum, whole, before, size);
      small = subst (λ (l : List (List ℕ)). Each Short l) (sym more) (each-append Short (take i blocks) (b ∷ []) so_far.small (few, tt));
      room = omega (arith, room, size, few);
    }

pub made-next : (levels low next : ℕ) (xs : List Sub) (i : ℕ) (x : Sub) → i < length xs → x ≡ get_or xs i x → low ≤ (x.nid).bits → next ≡ (x.nid).bits + 1 → IsContent x.blocks → IsForm x.subs → All (λ f. f.level < levels) x.subs
    → Made levels (take i xs) low → Made levels (take (i + 1) xs) next
made-next levels low next xs i x h is above after content form shallow made =
    let more : take (i + 1) xs ≡ take i xs ++ x ∷ [] = take_more xs i x h ∙ ap (λ (s : Sub). take i xs ++ s ∷ []) (sym is) in
    subst (λ (l : List Sub). Made levels l next) (sym more)
    (made-push levels low next (take i xs) x made above (omega (arith, after)) (record { content = content; form = form; shallow = shallow }))

-- some subnodes of which each can stand below, at no more than so many levels
pub record Forming (levels low : ℕ) (xs : List Sub) (i : ℕ) : Type 0 where
  pub made : Made (levels - 1) (take i xs) low
  pub some : 1 ≤ i → 1 ≤ levels

-- subnodes at no more than so many levels
pub record Formed (levels : ℕ) (flats : List Flat) : Type 0 where
  pub form : IsForm flats
  pub shallow : All (λ f. f.level < levels) flats

pub forming-end : (levels low : ℕ) (xs : List Sub) (i : ℕ) (flats : List Flat) → flattened xs ≡ flats → length xs ≤ i → levels ≤ 8 → length xs ≤ 173400 → Forming levels low xs i → Formed levels flats
forming-end levels low xs i flats same h high few forming = let P : List Flat → Type 0 = λ l. Formed levels l in subst P same (by (cases_lt 0 i))
  where
    none : (ys : List Sub) → length ys ≤ 0 → Formed levels (flattened ys)
    none [] h = record { form = form-made 0 0 [] (omega arith) (omega arith) (made-none 0 0); shallow = all_from-each (λ (f : Flat). f.level < levels) [] tt }
    none (x ∷ ys) h = absurd (omega (arith, h))

    by : ((0 < i) ⊎ (i ≤ 0)) → Formed levels (flattened xs)
    by (inr zero_long) = none xs (omega (arith, zero_long, h))
    by (inl some) =
        let one = forming.some (omega (arith, some)) in
        let whole : Made (levels - 1) xs low = subst (λ (l : List Sub). Made (levels - 1) l low) (take_all i xs h) forming.made in
        let back : levels - 1 + 1 ≡ levels = omega (arith, one) in
        record {
          form = form-made (levels - 1) low xs (omega (arith, one, high)) few whole;
          shallow = subst (λ (n : ℕ). All (λ f. f.level < n) (flattened xs)) back (made-shallow (levels - 1) low xs whole);
        }
