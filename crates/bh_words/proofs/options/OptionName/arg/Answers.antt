use Rattle.std.proofs.Common.{rules}
use Rattle.bh_words.proofs.Texts.{digits_30, digits_4096, digits_3600, digits_5242880, digits_16777216, digits_65536, digits_0}
use Rattle.bh_words.proofs.options.OptionName.arg.Goals as goal

pub returns-in-Timeout-clause-rule : goal.returns-in-Timeout-clause-rule
returns-in-Timeout-clause-rule c = search (rules, digits_30)

pub returns-in-Connections-clause-rule : goal.returns-in-Connections-clause-rule
returns-in-Connections-clause-rule c = search (rules, digits_4096)

pub returns-in-ClockStep-clause-rule : goal.returns-in-ClockStep-clause-rule
returns-in-ClockStep-clause-rule c = search (rules, digits_3600)

pub returns-in-MinPart-clause-rule : goal.returns-in-MinPart-clause-rule
returns-in-MinPart-clause-rule c = search (rules, digits_5242880)

pub returns-in-MaxBody-clause-rule : goal.returns-in-MaxBody-clause-rule
returns-in-MaxBody-clause-rule c = search (rules, digits_16777216)

pub returns-in-BlockSize-clause-rule : goal.returns-in-BlockSize-clause-rule
returns-in-BlockSize-clause-rule c = search (rules, digits_65536)

pub returns-in-CacheBlocks-clause-rule : goal.returns-in-CacheBlocks-clause-rule
returns-in-CacheBlocks-clause-rule c = search (rules, digits_0)
