use Rattle.std.proofs.Common.{◌≡◌, ◌+◌, ◌++◌, ◌∷◌, [], List, length, map, ap, subst, sym, ◌∙◌, arith}
use Rattle.pst_base.specs.declared.subs.Sub.{Sub}
use Rattle.pst_base.specs.Flat.{Flat}
use Rattle.pst_base.specs.Subs.{flattened, one_deeper}
use Rattle.subnode_tree.specs.Plan.{IsForm}
use Rattle.subnode_tree.proofs.FormLaws.{own}
use Rattle.subnode_tree.proofs.MadeLaws.{form-made, form-none, made-one, none-shallow, sub-fits}
use Rattle.file_rows.proofs.subnodes.single.Goals as goal

pub returns-clause-form : goal.returns-clause-form
returns-clause-form c =
    let x = c.in_ok-alone.alone in
    let alone : c.push.new.self.items ≡ x ∷ [] = c.in_ok-push.ensures.items ∙ ap (λ (xs : List Sub). xs ++ x ∷ []) c.new-all.ensures.items in
    let made : c.from_vec.result ≡ flattened (x ∷ []) = c.from_vec.ensures ∙ ap flattened alone in
    let fits = sub-fits 0 c.args.byte x [] c.in_ok-alone.ensures.blocks c.in_ok-alone.ensures.subs form-none (none-shallow 0) in
    let P : List Flat → Type 0 = λ flats. IsForm flats in
    subst P (sym made) (form-made 0 ((x.nid).bits + 1) (x ∷ []) (omega arith) (omega arith) (made-one 0 x fits))

pub returns-clause-one : goal.returns-clause-one
returns-clause-one c =
    let x = c.in_ok-alone.alone in
    let alone : c.push.new.self.items ≡ x ∷ [] = c.in_ok-push.ensures.items ∙ ap (λ (xs : List Sub). xs ++ x ∷ []) c.new-all.ensures.items in
    let made : c.from_vec.result ≡ flattened (x ∷ []) = c.from_vec.ensures ∙ ap flattened alone in
    ap length made ∙ ap (λ (flats : List Flat). length ((own x ∷ map one_deeper flats) ++ [])) c.in_ok-alone.ensures.subs
