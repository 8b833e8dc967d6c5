-- Which subnode an attachment names.
use Rattle.std.proofs.Common.{◌≡◌, ℕ, List, None, Some, IsTrue, refl, sym}
use Rattle.std.proofs.lemmas.Bool.{eqb-true}
use Rattle.pst_base.specs.Fields.{number_at}
use Rattle.pst_base.specs.declared.subs.Sub.{Sub}
use Rattle.mapi_values.specs.Values.{Val, fits, in_field}
use Rattle.command_text.specs.declared.command.Held.TheVariants.{Message}
use Rattle.mail_tree.specs.Parts.{attachment_props}
use Rattle.mail_tree.specs.Values.{bytes_of, number_of}
use Rattle.embedded_obj.specs.Embedding.{EMBEDDED, embedded_in}

-- a number has 4 bytes
pub number-length : (n : ℕ) → IsTrue (fits 0x0003 n) → n ≡ 4
unfolding fits in_field
number-length n f = sym (eqb-true 4 n f)

-- a number that isn't there is 0
pub no-number : (id : ℕ) (props : List Val) → None ≡ bytes_of id 0x0003 props → 0 ≡ number_of id props
unfolding number_at
no-number id props e = rw (← e) refl

-- a new attachment with a message names the subnode in which that is laid
pub named-laid : (name : List ℕ) (size : ℕ) (node : Sub) → node.nid.bits ≡ EMBEDDED → embedded_in (attachment_props name (Message size node)) ≡ Some EMBEDDED
unfolding embedded_in number_at
named-laid name size node is = rw is refl
