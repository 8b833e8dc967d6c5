use Rattle.std.proofs.Common.{◌≡◌, ◌∙◌, ◌++◌, ap, rules, arith, append_assoc}
use Rattle.byteorder.specs.Endian.{little_bytes}
use Rattle.restr_codec.specs.Forms.{restrs}
use Rattle.restr_codec.specs.Restr.{how_many}
use Rattle.restr_codec.specs.Spelling.{spelling_of_all}
use Rattle.restr_codec.proofs.Counts.{how_many_restrs}
use Rattle.restr_codec.proofs.WriteLaws.{on_ok}
use Rattle.restr_codec.proofs.writing.+write.Goals as goal

pub push_group-returns : goal.push_group-returns
push_group-returns t c =
    let count : c.len.result ≡ how_many (restrs c.args.inner.now.items) = omega (arith, how_many_restrs c.args.inner.now.items) in
    let wrote : c.extend_from_slice.new.self.items ≡ c.args.out.now.items ++ little_bytes 2 c.len.result = search rules in
    on_ok c.push_all.result
    (λ h. h ∙ (ap (λ xs. xs ++ spelling_of_all (restrs c.args.inner.now.items)) (wrote ∙ ap (λ n. c.args.out.now.items ++ little_bytes 2 n) count)
    ∙ append_assoc c.args.out.now.items (little_bytes 2 (how_many (restrs c.args.inner.now.items))) (spelling_of_all (restrs c.args.inner.now.items))))
    c.push_all.ensures
