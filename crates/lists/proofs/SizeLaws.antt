-- Walks of every address size but 3 are as they were before that one was read. Assumes nothing.
use Rattle.section_bytes.proofs.SizeLaws.{asked}
use Rattle.lists.specs.Open.{opened}
use Rattle.lists.specs.Walk.{next, next_raw, convert_raw}
use Rattle.lists.specs.Sizes.{WalksAsBefore}

pub walks_as_before : WalksAsBefore
unfolding opened next next_raw convert_raw
walks_as_before =
    record {
      opening = λ encoding s offset base h. rw (asked encoding.address_size h);
      walk = λ l table size len w h. rw (asked size h);
      raw = λ l size len w h. rw (asked size h);
      conversion = λ l table size w e h. rw (asked size h);
    }
