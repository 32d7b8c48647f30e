-- `rows::many::xor_multi` meets its contract: none, or seeded with the first and the rest folded in. Assumes nothing.
use Rattle.std.proofs.Common.{rules}
use Rattle.rows.proofs.Stripes.{across_as, across_then}
use Rattle.rows.proofs.Columns.{sources_none, xor-whole}
use Rattle.rows.proofs.many.xor_multi.Goals as goal

pub returns-in-empty : goal.returns-in-empty
returns-in-empty c =
    let a = c.args in
    rw (sources_none a.code.now a.n _ c.requires.within.2 c.as_chunks.ensures.front c.in-empty.len_below) (c.one_row.ensures (λ x y z. 0) (search rules))

pub returns-in-len1-up : goal.returns-in-len1-up
returns-in-len1-up c =
    let a = c.args in
    across_as
    (xor-whole a.code.now a.n _ c.requires.within.2 c.as_chunks.ensures.front _ c.in-len1-up.len_at_least c.from_le_bytes-a.ensures a.d c.requires.n_value.1)
    (across_then (c.one_row-in-len1-up.ensures (λ x y z. x) (search rules)) c.xor_rest.ensures)
