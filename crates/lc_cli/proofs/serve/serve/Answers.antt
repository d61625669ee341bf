use Rattle.std.proofs.Common.{refl}
use Rattle.lc_cli.proofs.serve.serve.Goals as goal

pub returns-in-Err-Door-clause-end : goal.returns-in-Err-Door-clause-end
returns-in-Err-Door-clause-end g c = record {
  result = c.serve.result;
  between = g.S.Sink.seen c.serve.new.out;
  never_fell = record { faults = c.serve.ensures.sink_counts.faults; wants = c.serve.ensures.sink_counts.wants };
  serves = c.serve.ensures.serves;
  said = rw (c.in-Err-Door.is, c.in-Err-Door.field-0-is) c.say.ensures.said;
  status_is = rw (c.in-Err-Door.is, c.in-Err-Door.field-0-is) refl;
}

pub returns-in-Err-Sink-clause-end : goal.returns-in-Err-Sink-clause-end
returns-in-Err-Sink-clause-end g c = record {
  result = c.serve.result;
  between = g.S.Sink.seen c.serve.new.out;
  never_fell = record { faults = c.serve.ensures.sink_counts.faults; wants = c.serve.ensures.sink_counts.wants };
  serves = c.serve.ensures.serves;
  said = rw (c.in-Err-Sink.is, c.in-Err-Sink.field-0-is) refl;
  status_is = rw (c.in-Err-Sink.is, c.in-Err-Sink.field-0-is) refl;
}

pub returns-in-Err-NoMemory-clause-end : goal.returns-in-Err-NoMemory-clause-end
returns-in-Err-NoMemory-clause-end g c = record {
  result = c.serve.result;
  between = g.S.Sink.seen c.serve.new.out;
  never_fell = record { faults = c.serve.ensures.sink_counts.faults; wants = c.serve.ensures.sink_counts.wants };
  serves = c.serve.ensures.serves;
  said = rw (c.in-Err-NoMemory.is, c.in-Err-NoMemory.field-0-is) c.say-in-Err-NoMemory.ensures.said;
  status_is = rw (c.in-Err-NoMemory.is, c.in-Err-NoMemory.field-0-is) refl;
}
