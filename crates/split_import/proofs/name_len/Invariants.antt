-- `name_len` meets its contract: its law is in proofs/NameLaws.antt.
use Rattle.split_import.specs.Names.{byte_at}
use Rattle.split_import.proofs.name_len.Given as goal

abbrev pub ghost-first_from : goal.ghost-first_from
ghost-first_from a = byte_at 44 a.test.now.0.now
