mod Alone
mod Standing
mod Printed
mod Words
mod Holding
