use Rattle.std.proofs.Common.{◌+◌, ◌-◌, ◌≡◌, ◌∙◌, take, arith, rules}
use Rattle.std.proofs.lemmas.Slice.{put_mid-paste}
use Rattle.answers.proofs.Storing.{many, sets_from_copy}
use Rattle.answers.proofs.store.put_all.Goals as goal

pub returns : goal.returns
returns g c =
    let from = c.min-place.result in
    let n = c.min-count.result in
    let list = c.args.list.now in
    let values = c.args.values.now in
    let is = c.min-place.ensures in
    let room = c.min-count.ensures in
    put_mid-paste from (from + n - from) list _ (take n values) n (search rules) (omega arith) (many list values c.args.place from n is room)
    ∙ sets_from_copy list values c.args.place from n is room
