-- The greatest index among subnodes, one after another.
use Rattle.std.proofs.Common.{◌≡◌, ◌+◌, ◌<◌, ℕ, List, [], ◌∷◌, ◌++◌, max, map, drop, get_or, length, arith, refl, sym, ap, ◌∙◌}
use Rattle.std.proofs.lemmas.Bool.{ne_eqb}
use Rattle.std.proofs.lemmas.List.{drop_more}
use Rattle.pst_base.specs.Flat.{Flat}
use Rattle.pst_base.specs.Subs.{flattened, one_deeper}
use Rattle.pst_base.specs.declared.subs.Sub.{Sub}
use Rattle.mail_tree.specs.Parts.{greatest_kept, part_index}

-- what stands deeper doesn't count
deeper : (fs rest : List Flat) → greatest_kept (map one_deeper fs ++ rest) ≡ greatest_kept rest
deeper [] rest = refl
deeper (f ∷ fs) rest = rw (ne_eqb (f.level + 1) 0 (λ e. omega arith)) (let more = deeper fs rest in omega arith)

-- what is left begins with a subnode, and then others
pub kept_step : (g i : ℕ) (subs : List Sub) (s : Sub) → i < length subs → s ≡ get_or subs i s
    → max (max g (part_index s.nid.bits)) (greatest_kept (flattened (drop (i + 1) subs))) ≡ max g (greatest_kept (flattened (drop i subs)))
kept_step g i subs s h is =
    let more : drop i subs ≡ s ∷ drop (i + 1) subs = drop_more subs i s h ∙ ap (λ (x : Sub). x ∷ drop (i + 1) subs) (sym is) in
    let first = deeper s.subs (flattened (drop (i + 1) subs)) in
    let all : greatest_kept (flattened (drop i subs)) ≡ max (part_index s.nid.bits) (greatest_kept (flattened (drop (i + 1) subs))) =
    ap (λ (ss : List Sub). greatest_kept (flattened ss)) more ∙ ap (λ (n : ℕ). max (part_index s.nid.bits) n) first in
    omega arith
