use Rattle.bytecode.proofs.put_line.Goals as goal

pub returns : goal.returns
returns c = record {
  puts_record = rw (← c.record_of-record_words.ensures) c.put_record.ensures;
  puts_entries = c.put_entries.ensures;
}
