use Rattle.std.proofs.Common.{inl, inr}
use Rattle.tree_look.specs.Forms.{IsNoTable}
use Rattle.tree_look.proofs.Found.{formless_caused, formless_found}
use Rattle.tree_look.proofs.nodes.look_associated.Goals as goal

pub returns-clause-found : goal.returns-clause-found
returns-clause-found g c = λ N held opened.
    formless_found N c.beside-nid.result _ c.in_ok-node.field-0 c.in-Some.node c.in-Err.why (IsNoTable c.in-Some.node) c.formless.ensures (c.in_ok-node.ensures.found N held) c.in-Some.is c.in-Err.ensures
    (λ fault none. inr (inl ((c.args.folder.bits, opened, inr (inr c.beside-nid.ensures)), none)))

pub returns-clause-cause : goal.returns-clause-cause
returns-clause-cause g c = formless_caused _ _ _ c.beside-nid.result _ c.in-Err.why c.formless.ensures
