use Rattle.net_writing.proofs.Puts.{puts_then}
use Rattle.net_writing.proofs.names.put_name.Goals as goal

pub returns : goal.returns
returns c = record {
  puts_the_line = puts_then (puts_then c.put.ensures.puts_the_bytes c.put-2.ensures.puts_the_bytes) c.put-3.ensures.puts_the_bytes;
}
