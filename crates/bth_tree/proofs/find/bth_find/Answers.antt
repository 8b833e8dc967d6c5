use Rattle.std.proofs.Common.{◌≡◌, ◌∙◌, ◌≤◌, ℕ, zero, suc, inl, inr, refl, sym, ap, arith}
use Rattle.std.proofs.lemmas.Result.{err_from_is_err_and}
use Rattle.heap_on_node.specs.Heap.{item}
use Rattle.bth_tree.specs.Tree.{under}
use Rattle.bth_tree.proofs.WholeLaws.{any-at, any-none, any-out, any-short, bth-at, bth-other}
use Rattle.bth_tree.proofs.find.bth_find.Goals as goal

pub returns-in_default : goal.returns-in_default
returns-in_default c = any-none (item c.args.h.now) c.args.hid (sym c.in_default.ensures)

pub returns-then-x-lt8 : goal.returns-then-x-lt8
returns-then-x-lt8 c = any-short (item c.args.h.now) c.args.hid c.in-Some.x.now (sym c.in-Some.ensures) c.if-x-lt8.true

pub returns-then-key_len-eq0 : goal.returns-then-key_len-eq0
returns-then-key_len-eq0 c = any-out (item c.args.h.now) c.args.hid c.in-Some.x.now (sym c.in-Some.ensures) (inl (omega (arith, c.u8_at-key_len.ensures)))

pub returns-then-key_len-gt4 : goal.returns-then-key_len-gt4
returns-then-key_len-gt4 c = any-out (item c.args.h.now) c.args.hid c.in-Some.x.now (sym c.in-Some.ensures) (inr (omega (arith, c.u8_at-key_len.ensures)))

pos : (n : ℕ) → (n ≡ 0 → ⊥) → 1 ≤ n
pos zero h = absurd (h refl)
pos (suc n) h = omega arith

pub returns-then-not-has_header : goal.returns-then-not-has_header
returns-then-not-has_header c =
    any-at (item c.args.h.now) c.args.hid c.u8_at-key_len.result c.u8_at-ent_len.result c.in-Some.x.now (sym c.in-Some.ensures) c.u8_at-key_len.ensures c.u8_at-ent_len.ensures (pos c.u8_at-key_len.result c.if-key_len-eq0.false) (omega arith)
    ∙ bth-other (item c.args.h.now) c.args.hid c.u8_at-key_len.result c.u8_at-ent_len.result c.in-Some.x.now (sym c.in-Some.ensures) (sym c.has_header.ensures ∙ c.if-not-has_header.true)

pub returns-in_err-sum : goal.returns-in_err-sum
returns-in_err-sum c =
    let p = err_from_is_err_and c.from_residual.result c.from_residual.ensures.1 in
    rw p.1 (any-at (item c.args.h.now) c.args.hid c.u8_at-key_len.result c.u8_at-ent_len.result c.in-Some.x.now (sym c.in-Some.ensures) c.u8_at-key_len.ensures c.u8_at-ent_len.ensures (pos c.u8_at-key_len.result c.if-key_len-eq0.false) (omega arith)
    ∙ bth-at (item c.args.h.now) c.args.hid c.u8_at-key_len.result c.u8_at-ent_len.result c.in-Some.x.now (sym c.in-Some.ensures) (sym c.has_header.ensures ∙ c.if-not-has_header.false)
    ∙ ap (λ (k : ℕ). under (item c.args.h.now) k c.u8_at-ent_len.result c.in-Some.x.now) (sym c.from.ensures) ∙ ap (λ (e : ℕ). under (item c.args.h.now) c.from.result e c.in-Some.x.now) (sym c.from-2.ensures) ∙ c.in_err-sum.ensures)

pub returns : goal.returns
returns c = (
  c.in_ok-sum.ensures.0,
  any-at (item c.args.h.now) c.args.hid c.u8_at-key_len.result c.u8_at-ent_len.result c.in-Some.x.now (sym c.in-Some.ensures) c.u8_at-key_len.ensures c.u8_at-ent_len.ensures (pos c.u8_at-key_len.result c.if-key_len-eq0.false) (omega arith)
      ∙ bth-at (item c.args.h.now) c.args.hid c.u8_at-key_len.result c.u8_at-ent_len.result c.in-Some.x.now (sym c.in-Some.ensures) (sym c.has_header.ensures ∙ c.if-not-has_header.false)
      ∙ ap (λ (k : ℕ). under (item c.args.h.now) k c.u8_at-ent_len.result c.in-Some.x.now) (sym c.from.ensures) ∙ ap (λ (e : ℕ). under (item c.args.h.now) c.from.result e c.in-Some.x.now) (sym c.from-2.ensures) ∙ c.in_ok-sum.ensures.1,
  c.found_entry.ensures c.args.key c.in_ok-sum.ensures.0 c.in_ok-sum.ensures.2,
)
