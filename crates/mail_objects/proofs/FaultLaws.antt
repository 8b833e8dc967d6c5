-- A node has one fault at most.
use Rattle.std.proofs.Common.{◌≡◌, ◌∙◌, ℕ, false, List, [], ◌∷◌, Option, None, Some, refl, sym, ap, subst, inl, inr}
use Rattle.pst_base.specs.Flat.{Flat}
use Rattle.mapi_values.specs.Messages.{row_ids}
use Rattle.mapi_values.specs.Tables.{Tab}
use Rattle.node_port.specs.declared.node.NodeRec.{NodeRec}
use Rattle.node_values.specs.Subnodes.{subnode, without}
use Rattle.property_context.proofs.UniqueLaws.{same-rest}
use Rattle.property_context.specs.Context as pc
use Rattle.property_context.specs.declared.read.PcFault.{PcFault}
use Rattle.property_context.specs.declared.read.PcFault.TheVariants as pcs
use Rattle.table_writer.specs.table_context.Context as tc
use Rattle.table_writer.specs.table_context.declared.fault.TcFault.{TcFault}
use Rattle.table_writer.specs.table_context.declared.fault.TcFault.TheVariants as tcs
use Rattle.mail_objects.specs.Answers.{context_fault, table_fault}
use Rattle.mail_objects.specs.Reading.{FirstLacks, LacksAttachments, LacksBelow, LacksContext, LacksMessage, LacksPart, LacksTable}
use Rattle.mail_objects.specs.Subnodes.{is_table}
use Rattle.mail_objects.specs.declared.message.fault.MessageFault.{MessageFault}
use Rattle.mail_objects.specs.declared.message.fault.MessageFault.TheVariants.{Heap, Bth, Pc, Tc, Attach}
use Rattle.mail_objects.proofs.OneMessage.{no-context, no-part, no-table-at, same-table}

-- ---- of properties

one-pc : (blocks : List (List ℕ)) (subs : List Flat) (f g : PcFault) → pc.Lacks blocks subs f → pc.Lacks blocks subs g → f ≡ g
one-pc blocks subs pcs.Heap pcs.Heap a b = refl
one-pc blocks subs pcs.Heap pcs.Bth a b = absurd (a b.0 b.1)
one-pc blocks subs pcs.Heap pcs.Pc a b = absurd (a b.0 b.2)
one-pc blocks subs pcs.Bth pcs.Heap a b = absurd (b a.0 a.1)
one-pc blocks subs pcs.Bth pcs.Bth a b = refl
one-pc blocks subs pcs.Bth pcs.Pc a b = let same : b.0 ≡ a.0 = sym b.2.root_is ∙ a.1.root_is in
    let there = rw same at b.3 in
    absurd (cc (sym a.2 ∙ there))
one-pc blocks subs pcs.Pc pcs.Heap a b = absurd (b a.0 a.2)
one-pc blocks subs pcs.Pc pcs.Bth a b = let same : a.0 ≡ b.0 = sym a.2.root_is ∙ b.1.root_is in
    let there = rw same at a.3 in
    absurd (cc (sym b.2 ∙ there))
one-pc blocks subs pcs.Pc pcs.Pc a b = refl

of-context : (blocks : List (List ℕ)) (subs : List Flat) (fault : MessageFault) → LacksContext blocks subs fault → (p : PcFault) × (fault ≡ context_fault p) × pc.Lacks blocks subs p
of-context blocks subs Heap lacks = (pcs.Heap, refl, lacks)
of-context blocks subs Bth lacks = (pcs.Bth, refl, lacks)
of-context blocks subs Pc lacks = (pcs.Pc, refl, lacks)
of-context blocks subs Tc lacks = absurd lacks
of-context blocks subs Attach lacks = absurd lacks

one-context-fault : (blocks : List (List ℕ)) (subs : List Flat) (f g : MessageFault) → LacksContext blocks subs f → LacksContext blocks subs g → f ≡ g
one-context-fault blocks subs f g a b =
    let x = of-context blocks subs f a in
    let y = of-context blocks subs g b in
    x.1 ∙ ap context_fault (one-pc blocks subs x.0 y.0 x.2 y.2) ∙ sym y.1

-- ---- of a table

one-tc : (blocks : List (List ℕ)) (subs : List Flat) (f g : TcFault) → tc.Lacks blocks subs f → tc.Lacks blocks subs g → f ≡ g
one-tc blocks subs tcs.Heap tcs.Heap a b = refl
one-tc blocks subs tcs.Heap tcs.Bth a b = absurd (a b.root b.heap)
one-tc blocks subs tcs.Heap tcs.Tc a b = absurd (a b.0.0 b.0.1)
one-tc blocks subs tcs.Bth tcs.Heap a b = absurd (b a.root a.heap)
one-tc blocks subs tcs.Bth tcs.Bth a b = refl
one-tc blocks subs tcs.Bth tcs.Tc a b = absurd (b.1 a)
one-tc blocks subs tcs.Tc tcs.Heap a b = absurd (b a.0.0 a.0.1)
one-tc blocks subs tcs.Tc tcs.Bth a b = absurd (a.1 b)
one-tc blocks subs tcs.Tc tcs.Tc a b = refl

of-table : (sub : List (List ℕ) × List Flat) (fault : MessageFault) → LacksTable (Some sub) fault → (t : TcFault) × (fault ≡ table_fault t) × tc.Lacks sub.0 sub.1 t
of-table sub Heap lacks = (tcs.Heap, refl, lacks)
of-table sub Bth lacks = (tcs.Bth, refl, lacks)
of-table sub Tc lacks = (tcs.Tc, refl, lacks)
of-table sub Pc lacks = absurd lacks
of-table sub Attach lacks = absurd lacks

one-table-fault : (sub : Option (List (List ℕ) × List Flat)) (f g : MessageFault) → LacksTable sub f → LacksTable sub g → f ≡ g
one-table-fault None f g a b = absurd a
one-table-fault (Some sub) f g a b =
    let x = of-table sub f a in
    let y = of-table sub g b in
    x.1 ∙ ap table_fault (one-tc sub.0 sub.1 x.0 y.0 x.2 y.2) ∙ sym y.1

-- ---- of attachments

one-part-fault : (sub : Option (List (List ℕ) × List Flat)) (f g : MessageFault) → LacksPart sub f → LacksPart sub g → f ≡ g
one-part-fault None f g a b = a ∙ sym b
one-part-fault (Some sub) f g a b = one-context-fault sub.0 sub.1 f g a b

first-one : (subs : List Flat) (ids : List ℕ) (f g : MessageFault) → FirstLacks subs ids f → FirstLacks subs ids g → f ≡ g
first-one subs [] f g a b = absurd a
first-one subs (id ∷ ids) f g (inl a) (inl b) = one-part-fault (subnode subs id) f g a b
first-one subs (id ∷ ids) f g (inl a) (inr b) = absurd (no-part (subnode subs id) id b.0 f a b.1)
first-one subs (id ∷ ids) f g (inr a) (inl b) = absurd (no-part (subnode subs id) id a.0 g b a.1)
first-one subs (id ∷ ids) f g (inr a) (inr b) = first-one subs ids f g a.2 b.2

one-attachments-fault : (rest : List Flat) (f g : MessageFault) → LacksAttachments rest f → LacksAttachments rest g → f ≡ g
one-attachments-fault rest f g (inl a) (inl b) = one-table-fault (subnode rest 0x671) f g a b
one-attachments-fault rest f g (inl a) (inr b) = absurd (no-table-at (subnode rest 0x671) b.0 f a b.1)
one-attachments-fault rest f g (inr a) (inl b) = absurd (no-table-at (subnode rest 0x671) a.0 g b a.1)
one-attachments-fault rest f g (inr a) (inr b) =
    let same : b.0 ≡ a.0 = same-table (subnode rest 0x671) b.0 a.0 b.1 a.1 in
    first-one (without is_table false rest) (row_ids a.0) f g a.2 (subst (λ (t : Option Tab). FirstLacks (without is_table false rest) (row_ids t) g) same b.2)

-- ---- of a message

one-below-fault : (rest : List Flat) (f g : MessageFault) → LacksBelow rest f → LacksBelow rest g → f ≡ g
one-below-fault rest f g (inl a) (inl b) = one-table-fault (subnode rest 0x692) f g a b
one-below-fault rest f g (inl a) (inr b) = absurd (no-table-at (subnode rest 0x692) b.0 f a b.1)
one-below-fault rest f g (inr a) (inl b) = absurd (no-table-at (subnode rest 0x692) a.0 g b a.1)
one-below-fault rest f g (inr a) (inr b) = one-attachments-fault rest f g a.2 b.2

pub one-fault : (node : NodeRec) (f g : MessageFault) → LacksMessage node f → LacksMessage node g → f ≡ g
one-fault node f g (inl a) (inl b) = one-context-fault node.blocks node.subs f g a b
one-fault node f g (inl a) (inr b) = absurd (no-context node.blocks node.subs b.0 b.1 f a b.2)
one-fault node f g (inr a) (inl b) = absurd (no-context node.blocks node.subs a.0 a.1 g b a.2)
one-fault node f g (inr a) (inr b) =
    let same : b.1 ≡ a.1 = same-rest node.blocks node.subs b.0 a.0 b.1 a.1 b.2 a.2 in
    one-below-fault a.1 f g a.3 (subst (λ (fs : List Flat). LacksBelow fs g) same b.3)
