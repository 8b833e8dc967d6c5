-- What is known of the messages and folders of nodes is so of the tree that they show.
use Rattle.std.proofs.Common.{◌≡◌, inl, inr, ◌∙◌, ℕ, ◌%◌, ◌<◌, Option, None, Some, IsSome, is_some, arith, refl, sym, subst, ap}
use Rattle.std.proofs.lemmas.Bool.{false≢true}
use Rattle.mapi_values.specs.Messages.{Mes}
use Rattle.mail_objects.specs.Forms.{Ctx}
use Rattle.mail_objects.specs.declared.object.Object.{Object}
use Rattle.mail_objects.specs.declared.object.Object.TheVariants.{Context, Table, Message, Bare}
use Rattle.mail_tree.specs.Flags.{AreFlags, FlagList, IsNoted}
use Rattle.mail_tree.specs.Standing.{HasContext, HasMail}
use Rattle.mail_tree.specs.Tree.{Tree, object_at}
use Rattle.mail_tree.specs.Whole.{kind_of_sort}
use Rattle.mail_tree.specs.declared.note.Note.{Note}
use Rattle.mail_tree.specs.declared.note.Note.TheVariants.{Named, Unread}
use Rattle.mail_tree.specs.declared.places.FolderPlace.{FolderPlace}
use Rattle.mail_tree.specs.declared.places.Sort.{Sort}
use Rattle.mail_tree.specs.declared.places.Sort.TheVariants.{Foreign, Plain}
use Rattle.mail_tree.proofs.Nearly.{message_id}
use Rattle.node_port.specs.Nodes.{Nodes}
use Rattle.tree_look.specs.Seeing.{AreListed, IsListedAs}
use Rattle.tree_look.specs.Shows.{Shows}
use Rattle.tree_look.proofs.Made.{bare_id, context_apart, table_id}
use Rattle.tree_look.proofs.One.{is_at}
use Rattle.tree_look.proofs.Owned.{IsAt, one_context_at, one_mail_at}

-- what stands at the id of a message that the nodes have is that message
message_at : (N : Nodes) (q : ℕ) (o : Object) (M : Mes) → IsAt N q o → q % 32 ≡ 4 → HasMail N q M → o ≡ Message M
message_at N q (Context c) M at four has = absurd (context_apart q c at.1 (inl four))
message_at N q (Bare parent) M at four has = let six = bare_id q parent at.1 in absurd (omega arith)
message_at N q (Table t) M at four has = let high = table_id q t at.1 in absurd (omega arith)
message_at N q (Message m) M at four has = ap (λ (x : Mes). Message x) (one_mail_at N q m M at.0 has)

-- a message that a plain folder lists belongs to the tree
owned_message : (N : Nodes) (T : Tree) (q : ℕ) (M : Mes) → Shows N T → q % 32 ≡ 4 → HasMail N q M → IsSome (object_at T q) → object_at T q ≡ Some (Message M)
owned_message N T q M s four has some = go (object_at T q) refl
  where
    go : (x : Option Object) → object_at T q ≡ x → object_at T q ≡ Some (Message M)
    go None e = absurd (false≢true (sym (ap is_some e) ∙ some))
    go (Some o) e = e ∙ ap Some (message_at N q o M (is_at N T s q o e) four has)

-- what stands at the id of a folder whose values the nodes have is those
context_there : (N : Nodes) (q : ℕ) (o : Object) (c : Ctx) → IsAt N q o → q % 32 < 4 → HasContext N q c → o ≡ Context c
context_there N q (Context d) c at low has = ap (λ (x : Ctx). Context x) (one_context_at N q d c at.0 has)
context_there N q (Table t) c at low has = let high = table_id q t at.1 in absurd (omega arith)
context_there N q (Message m) c at low has = let four = (message_id q m at.1).0 in absurd (omega arith)
context_there N q (Bare parent) c at low has = let six = bare_id q parent at.1 in absurd (omega arith)

-- a folder's values belong to the tree
owned_context : (N : Nodes) (T : Tree) (q : ℕ) (c : Ctx) → Shows N T → q % 32 < 4 → HasContext N q c → IsSome (object_at T q) → object_at T q ≡ Some (Context c)
owned_context N T q c s low has some = go (object_at T q) refl
  where
    go : (x : Option Object) → object_at T q ≡ x → object_at T q ≡ Some (Context c)
    go None e = absurd (false≢true (sym (ap is_some e) ∙ some))
    go (Some o) e = e ∙ ap Some (context_there N q o c (is_at N T s q o e) low has)

folder_low : (k : ℕ) (sort : Sort) → k ≡ kind_of_sort sort → k < 4
folder_low k Plain kind = omega (arith, kind)
folder_low k Foreign kind = omega (arith, kind)

pub shows_flags : (N : Nodes) (T : Tree) (flags : FlagList) → Shows N T → AreListed N T.places flags → AreFlags (object_at T) flags
shows_flags N T flags s listed = λ q note known. noted q note (listed q note known)
  where
    noted : (q : ℕ) (note : Note) → IsListedAs N T.places q note → IsNoted note (object_at T q)
    noted m (Unread unread) l =
        let some : IsSome (object_at T m) = (s.owned m).1 (inr (inr (l.0, l.1, inr (inr (inr l.2))))) in
        (l.3.0, owned_message N T m l.3.0 s l.2.3 l.3.1 some, l.3.2)
    noted f (Named name) l =
        let some : IsSome (object_at T f) = (s.owned f).1 (inr (inl (subst (λ (p : Option FolderPlace). IsSome p) (sym l.1) refl))) in
        (l.2.0, owned_context N T f l.2.0 s (folder_low (f % 32) (l.0).sort (s.tree.kinds f l.0 l.1)) l.2.1 some, l.2.2)
