use Rattle.rt_protobuf.proofs.reading.+varint.Given as goal

abbrev pub decreases-varint : goal.decreases-varint
decreases-varint l = l.left
